-- What holds between calls, at every moment of a store.
use mathlib.Core.Path.{◌≡◌, refl, sym, ap, ◌∙◌, subst}
use mathlib.Core.Bool.{Bool, true, false, not, false≢true}
use mathlib.Core.Option.{Option, none, some}
use mathlib.Core.List.{List}
use mathlib.Core.Logic.{inl, inr}
use Prim.Native.Nat.{ℕ, ◌^◌, ◌≤◌, ◌<◌}
use native.Mathlib.Omega.{arith}
use lib.Dec.{eqb, ltb, leb}
use lib.ListN.{length, get_or}
use borrow.Author.Tests.{ltb-true, ltb-false, eqb-true, eq-eqb, le-leb, lt-leb, eqb-false}
use Rattle.demands.specs.History.{Version, Scan, awaits, awaited, needed}
use Rattle.demands.specs.Lists.{any, standing, Permutation}
use Rattle.demands.specs.Masks.{one_if, waits_for}
use Rattle.rules.specs.declared.Card.{Card}
use Rattle.rules.specs.Calls.{slot_in, bearing, empty_slot, card_of, m_at, unawaited}
use Rattle.rules.specs.Masks.{bit}
use Rattle.rules.specs.Memory.{Slot, T, R}
use Rattle.rules.proofs.First.{first_found, first-lowest}
use Rattle.stores.proofs.ChangesFine.{m_small}
use Rattle.demands.proofs.lists.Lists.{In, any_in, in_any, those_in, in_those, back, perm_in, perm_length}
use Rattle.stores.proofs.LooksFine.{BusyAt, ticket_busy}
use Rattle.demands.proofs.invariant.Marks.{Is, OK, Marked, is_at, m_means, ones_none, some-zero}
use Rattle.demands.proofs.invariant.Moment.{Moment, looks_o, end, aw, place_in, Row, table_of, shelf_of}
use Rattle.stores.proofs.OnePosition.{Fine, n_most}
use Rattle.demands.proofs.history.Past.{Past}
use Rattle.demands.proofs.lists.Places.{At, at_below, at_standing, standing_at, room_less, full_all}
use Rattle.stores.proofs.SoundDesk.{Idle, CardSound}

-- the scan at a position, and its card
pub record Seated (c : Card) (s : Scan) : Type 0 where
  pub ticket : c.ticket.0 ≡ s.ticket
  pub place : c.place ≡ s.looks
  pub handed : c.handed ≡ length s.handed
  pub rest : c.rest ≡ 0

abbrev pub SeatOK : Card → Option Scan → Type 0
SeatOK c none = c.ticket.0 ≡ 0
SeatOK c (some s) = Seated c s

pub record Inv (m : Moment) : Type 0 where
  pub fine : Fine m.store
  pub past : Past m.history
  pub is_n : m.store.desk.n ≡ m.n
  pub is_t : T m.store ≡ m.t
  pub is_r : R m.store ≡ m.r
  pub last : m.store.desk.last ≡ m.history.given
  pub slots : length m.table ≡ m.t
  pub entries : length m.shelf ≡ m.r
  pub seats : length m.seats ≡ m.n
  pub seated : Permutation (standing m.seats) m.history.running
  pub cards : (i : ℕ) → i < 64 → SeatOK (card_of m.store i) (get_or m.seats i none)
  pub table_marks : Marked m (table_of m)
  pub shelf_marks : Marked m (shelf_of m)
  pub tabled : Permutation (standing m.table) m.history.live
  pub shelved : Permutation (standing m.shelf) (needed m.history)

-- ---- slots and the versions that they spell, by number alone

abbrev pub NumberOK : Slot → Option Version → Type 0
NumberOK s none = s.number ≡ 0
NumberOK s (some v) = (s.number ≡ v.number) × (1 ≤ s.number)

numbers : (m : Moment) (w : Row) → Marked m w → (i : ℕ) → NumberOK (slot_in w.slots i) (get_or w.versions i none)
numbers m w h i = go (get_or w.versions i none) (h i)
  where
    go : (o : Option Version) → OK m w i (slot_in w.slots i) o → NumberOK (slot_in w.slots i) o
    go none e = ap (λ (s : Slot). s.number) e
    go (some v) x = (x.number, x.some)

module _ (l : List Slot) (g : List (Option Version)) (len : length g ≡ length l) (ok : (i : ℕ) → NumberOK (slot_in l i) (get_or g i none)) where
  numbered_at : (i : ℕ) (o : Option Version) → get_or g i none ≡ o → NumberOK (slot_in l i) o
  numbered_at i o e = subst (NumberOK (slot_in l i)) e (ok i)

  pub empty-none : (i : ℕ) → (slot_in l i).number ≡ 0 → get_or g i none ≡ none
  empty-none i z = go (get_or g i none) refl
    where
      go : (o : Option Version) → get_or g i none ≡ o → get_or g i none ≡ none
      go none e = e
      go (some v) e = let w = numbered_at i (some v) e in let y : 1 ≤ (slot_in l i).number = w.1 in absurd (omega arith)

  pub empty_place : empty_slot l < length l → get_or g (empty_slot l) none ≡ none
  empty_place h = empty-none (empty_slot l) (eqb-true _ _ (first_found (λ i. eqb (slot_in l i).number 0) 0 (length l) (omega arith)))

  pub full_place : (empty_slot l < length l → ⊥) → (j : ℕ) → j < length g → get_or g j none ≡ none → ⊥
  full_place d j h e =
      let z : (slot_in l j).number ≡ 0 = numbered_at j none e in
      let y : empty_slot l ≤ j = first-lowest (λ i. eqb (slot_in l i).number 0) 0 (length l) j (omega arith) (eq-eqb _ _ z) in
      d (omega arith)

  -- all places are taken exactly where no slot is empty
  pub full_is : (vs : List Version) → Permutation (standing g) vs → not (ltb (empty_slot l) (length l)) ≡ leb (length l) (length vs)
  full_is vs p = go (ltb (empty_slot l) (length l)) refl
    where
      n : length (standing g) ≡ length vs
      n = perm_length (standing g) vs p

      go : (b : Bool) → ltb (empty_slot l) (length l) ≡ b → not (ltb (empty_slot l) (length l)) ≡ leb (length l) (length vs)
      go true e =
          let h : empty_slot l < length l = ltb-true _ _ e in
          let m : length (standing g) < length g = room_less g (empty_slot l) (empty_place h) (omega arith) in
          rw (e, lt-leb (length l) (length vs) (omega (arith, n))) refl
      go false e =
          let h : length l ≤ empty_slot l = ltb-false _ _ e in
          let m : length (standing g) ≡ length g = full_all g (full_place (λ z. omega arith)) in
          rw (e, le-leb (length l) (length vs) (omega (arith, n))) refl

  -- the version of a number
  pub bearer : (k : ℕ) → 1 ≤ k → bearing l k < length l → (v : Version) × At g (bearing l k) v × (v.number ≡ k)
  bearer k hk h = go (get_or g (bearing l k) none) refl
    where
      z : (slot_in l (bearing l k)).number ≡ k
      z = eqb-true _ _ (first_found (λ i. eqb (slot_in l i).number k) 0 (length l) (omega arith))

      go : (o : Option Version) → get_or g (bearing l k) none ≡ o → (v : Version) × At g (bearing l k) v × (v.number ≡ k)
      go none e = let y : (slot_in l (bearing l k)).number ≡ 0 = numbered_at (bearing l k) none e in absurd (omega (arith, z))
      go (some v) e = (v, e, sym (numbered_at (bearing l k) (some v) e).0 ∙ z)

  pub bears : (i : ℕ) (v : Version) → At g i v → bearing l v.number < length l
  bears i v e =
      let w = numbered_at i (some v) e in
      let h : i < length g = at_below g i v e in
      let y : bearing l v.number ≤ i = first-lowest (λ i. eqb (slot_in l i).number v.number) 0 (length l) i (omega arith) (eq-eqb _ _ w.0) in
      omega arith

-- ---- what follows of the store between calls

module _ {now : Moment} (q : Inv now) where
  pub n_64 : now.n ≤ 64
  n_64 = omega (arith, q.is_n, n_most now.store q.fine)

  pub table_numbers : (i : ℕ) → NumberOK (slot_in now.store.table i) (get_or now.table i none)
  table_numbers = numbers now (table_of now) q.table_marks

  pub shelf_numbers : (i : ℕ) → NumberOK (slot_in now.store.shelf i) (get_or now.shelf i none)
  shelf_numbers = numbers now (shelf_of now) q.shelf_marks

  pub gt_length : length now.table ≡ length now.store.table
  gt_length = q.slots ∙ sym q.is_t

  pub gs_length : length now.shelf ≡ length now.store.shelf
  gs_length = q.entries ∙ sym q.is_r

  pub ticket-left : eqb now.store.desk.last 4294967295 ≡ false → now.history.given < 4294967295
  ticket-left e = go now.store.desk.last now.history.given q.last q.fine.sized.desk.last (eqb-false _ _ e)
    where
      go : (x y : ℕ) → x ≡ y → x < 4294967296 → (x ≡ 4294967295 → ⊥) → y < 4294967295
      go x y e l d = omega arith

  -- ---- scans and positions

  pub runs_at : (i : ℕ) (s : Scan) → At now.seats i s → In s now.history.running
  runs_at i s e = perm_in s (standing now.seats) now.history.running q.seated (at_standing now.seats i s e)

  pub at_runs : (s : Scan) → In s now.history.running → (i : ℕ) × At now.seats i s
  at_runs s m = standing_at now.seats s (perm_in s now.history.running (standing now.seats) (back q.seated) m)

  pub position : (i : ℕ) (s : Scan) → At now.seats i s → i < 64
  position i s e = omega (arith, at_below now.seats i s e, q.seats, n_64)

  pub seat : (i : ℕ) (s : Scan) → At now.seats i s → Seated (card_of now.store i) s
  seat i s e = subst (SeatOK (card_of now.store i)) e (q.cards i (position i s e))

  pub busy : (i : ℕ) (s : Scan) → At now.seats i s → BusyAt now.store i
  busy i s e = ticket_busy now.store q.fine i (position i s e) (omega (arith, (seat i s e).ticket, (q.past.scans s (runs_at i s e)).low))

  -- a position that seats no scan
  pub resting : (i : ℕ) → i < 64 → get_or now.seats i none ≡ none → Idle now.store.desk.masks (card_of now.store i) i
  resting i hi e = go (q.fine.sound.cards i (omega (arith, q.fine.sized.desk.all)))
    where
      z : (card_of now.store i).ticket.0 ≡ 0
      z = subst (SeatOK (card_of now.store i)) e (q.cards i hi)

      go : CardSound now.store.desk.masks (T now.store) (R now.store) now.store.desk.last (card_of now.store i) i → Idle now.store.desk.masks (card_of now.store i) i
      go (inl x) = x
      go (inr x) = absurd (omega (arith, z, x.ticket))

  -- ---- who awaits a version

  pub awaited_at : (v : Version) → awaited now.history v ≡ true → (i : ℕ) × (i < 64) × (aw now i v ≡ true)
  unfolding awaited
  awaited_at v e =
      let w = in_any (λ s. awaits s v) now.history.running e in
      let x = at_runs w.0 w.1 in
      (x.0, position x.0 w.0 x.1, ap (λ (o : Option Scan). waits_for o v) x.1 ∙ w.2)

  pub at_awaited : (v : Version) (i : ℕ) → aw now i v ≡ true → awaited now.history v ≡ true
  unfolding awaited
  at_awaited v i e = go (get_or now.seats i none) refl
    where
      go : (o : Option Scan) → get_or now.seats i none ≡ o → any (λ s. awaits s v) now.history.running ≡ true
      go none d = absurd (false≢true (sym (ap (λ (o : Option Scan). waits_for o v) d) ∙ e))
      go (some s) d = any_in (λ s. awaits s v) now.history.running s (runs_at i s d) (sym (ap (λ (o : Option Scan). waits_for o v) d) ∙ e)

  pub not-awaited : (v : Version) → awaited now.history v ≡ false → (i : ℕ) → aw now i v ≡ false
  not-awaited v e i = go (aw now i v) refl
    where
      go : (b : Bool) → aw now i v ≡ b → aw now i v ≡ false
      go true d = absurd (false≢true (sym e ∙ at_awaited v i d))
      go false d = d

  -- ---- versions and where they stand

  pub live_at : (v : Version) → In v now.history.live → (j : ℕ) × At now.table j v
  live_at v m = standing_at now.table v (perm_in v now.history.live (standing now.table) (back q.tabled) m)

  pub at_live : (j : ℕ) (v : Version) → At now.table j v → In v now.history.live
  at_live j v e = perm_in v (standing now.table) now.history.live q.tabled (at_standing now.table j v e)

  pub at_needed : (k : ℕ) (v : Version) → At now.shelf k v → In v now.history.left × (awaited now.history v ≡ true)
  at_needed k v e = those_in (awaited now.history) now.history.left v (perm_in v (standing now.shelf) (needed now.history) q.shelved (at_standing now.shelf k v e))

  pub needed_at : (v : Version) → In v now.history.left → awaited now.history v ≡ true → (k : ℕ) × At now.shelf k v
  needed_at v m e = standing_at now.shelf v (perm_in v (needed now.history) (standing now.shelf) (back q.shelved) (in_those (awaited now.history) now.history.left v m e))

  pub slot_of : (j : ℕ) (v : Version) → At now.table j v → Is now (table_of now) j (slot_in now.store.table j) v
  slot_of j v e = is_at now (table_of now) q.table_marks j v e

  pub entry_of : (k : ℕ) (v : Version) → At now.shelf k v → Is now (shelf_of now) k (slot_in now.store.shelf k) v
  entry_of k v e = is_at now (shelf_of now) q.shelf_marks k v e

  -- past its table walk a scan awaits nothing in the table
  pub beyond : (j : ℕ) (v : Version) → At now.table j v → (i : ℕ) → i < 64 → bit now.store.desk.masks.local i ≡ 1 → aw now i v ≡ false
  beyond j v e i hi l = go (get_or now.seats i none) refl
    where
      go : (o : Option Scan) → get_or now.seats i none ≡ o → aw now i v ≡ false
      go none d = ap (λ (o : Option Scan). waits_for o v) d
      go (some s) d =
          let b = busy i s d in
          let f : ltb (card_of now.store i).place (T now.store) ≡ false = b.local ∙ rw l refl in
          let y : T now.store ≤ (card_of now.store i).place = ltb-false _ _ f in
          let z : place_in now i ≡ s.looks = ap (looks_o (end now)) d in
          (slot_of j v e).passed i hi (omega (arith, at_below now.table j v e, q.slots, q.is_t, (seat i s d).place))

  -- bit i of m is 0 exactly where scan i awaits the version
  pub m_bits : (j : ℕ) (v : Version) → At now.table j v → (i : ℕ) → i < 64 → bit (m_at now.store j) i ≡ one_if (not (aw now i v))
  m_bits j v e i hi = m_means now.store.desk.masks (slot_in now.store.table j).mask i (aw now i v) (beyond j v e i hi) ((slot_of j v e).bits i hi)

  -- m is all ones exactly where no running scan awaits the version
  pub unawaited_is : (j : ℕ) (v : Version) → At now.table j v → unawaited now.store j ≡ not (awaited now.history v)
  unawaited_is j v e = go (unawaited now.store j) refl (awaited now.history v) refl
    where
      small : m_at now.store j < 2 ^ 64
      small = m_small now.store.desk.masks (slot_in now.store.table j).mask q.fine.sized.desk.stable q.fine.sized.desk.local (q.fine.sized.table j).mask

      go : (a : Bool) → unawaited now.store j ≡ a → (b : Bool) → awaited now.history v ≡ b → unawaited now.store j ≡ not (awaited now.history v)
      go true x true y = let w = awaited_at v y in absurd (false≢true (sym (ones_none (m_at now.store j) (λ i. aw now i v) small (m_bits j v e) x w.0 w.1) ∙ w.2))
      go true x false y = rw (x, y) refl
      go false x true y = rw (x, y) refl
      go false x false y = let w = some-zero (m_at now.store j) (λ i. aw now i v) small (m_bits j v e) x in absurd (false≢true (sym y ∙ at_awaited v w.0 w.2))
