-- A look at a slot or an entry: what it finds there, and what it keeps.
use mathlib.Core.Path.{◌≡◌, refl, sym, ap, ◌∙◌, subst}
use mathlib.Core.Bool.{Bool, true, false, not, ◌&&◌, false≢true}
use mathlib.Core.Option.{Option, none, some}
use mathlib.Core.List.{List, [], ◌∷◌}
use Prim.Native.Nat.{ℕ, suc, ◌+◌, ◌<◌}
use native.Mathlib.Omega.{arith}
use native.Mathlib.Decide.{ℕ_discrete}
use lib.Bits.{bit_xor}
use lib.Dec.{eqb}
use lib.ListN.{get_or}
use borrow.Author.Tests.{eqb-true, eqb-false, ne_eqb, not-true, not-false}
use Rattle.demands.specs.History.{Version, Scan, reads, awaits, awaited, goes}
use Rattle.demands.specs.Masks.{one_if, waits_for}
use Rattle.rules.specs.Calls.{slot_in, in_use, card_of}
use Rattle.rules.specs.Masks.{Masks, bit, off}
use Rattle.rules.specs.Memory.{Slot, Store, store, T, R}
use Rattle.rules.specs.Next.{desk_with, moved}
use Rattle.rules.proofs.Bits.{bit_low}
use Rattle.demands.proofs.history.Awaits.{awaits_gone, awaits_passed}
use Rattle.demands.proofs.history.Past.{ever, passed_past, handed-past}
use Rattle.demands.proofs.invariant.GoesOn.{seats_on, own, other, on_seats, on_seated, on_cards, awaited-same, on_shelved, began_v, handed_other, handed_less}
use Rattle.demands.proofs.invariant.Invariant.{Seated, Inv, position, seat, runs_at}
use Rattle.demands.proofs.invariant.Marks.{OK, Marked, is_at, one-zero, one-one}
use Rattle.demands.proofs.invariant.Moment.{Moment, scans_move, after_next, aw_at, place_at, Row, table_of, shelf_of}
use Rattle.demands.proofs.invariant.ScanMoves.{scan-moves}
use Rattle.demands.proofs.lists.Lists.{In, those-same}
use Rattle.demands.proofs.lists.Places.{At, length-keep}
use Rattle.stores.proofs.OnePosition.{Fine}

-- the store after a look of the scan at p that handed out or not: masks, table and shelf
abbrev looked_store : Store → ℕ → Bool → Masks → List Slot → List Slot → Store
looked_store S p x K t e = store (desk_with S.desk K p (moved (card_of S p) x)) t e

-- after a look that passed
abbrev pub passed_on : Moment → ℕ → Scan → Masks → Moment
passed_on now p s K = scans_move now (looked_store now.store p false K now.store.table now.store.shelf) (goes now.history s.ticket 1 []) (seats_on now s 1 [])

-- after one that handed out v
abbrev pub handed_on : Moment → ℕ → Scan → Version → Masks → List Slot → List Slot → Moment
handed_on now p s v K t e =
    after_next now (looked_store now.store p true K t e) (goes now.history s.ticket 1 (reads v ∷ [])) (seats_on now s 1 (reads v ∷ []))

-- the look of scan s at position p is at slot k of a row
pub record Faces (now : Moment) (p : ℕ) (s : Scan) (w : Row) (k : ℕ) : Type 0 where
  pub marked : Marked now w
  pub speaks : w.speaks p ≡ true
  pub place : w.place k ≡ s.looks
  pub apart : (i : ℕ) → w.place i ≡ w.place k → i ≡ k

module _ {now : Moment} (q : Inv now) (p : ℕ) (s : Scan) (here : At now.seats p s) where
  -- ---- what it finds

  module _ {w : Row} {k : ℕ} (f : Faces now p s w k) where
    -- in use, and the scan's bit is 0
    abbrev tested : Bool
    tested = in_use (slot_in w.slots k) && off (w.shows (slot_in w.slots k).mask) p

    pub own_bit : (i : ℕ) (v : Version) → At w.versions i v → bit (w.shows (slot_in w.slots i).mask) p ≡ one_if (not (awaits s v))
    own_bit i v e = (is_at now w f.marked i v e).bits p (position q p s here) ∙ rw (f.speaks, aw_at now p s here v) refl

    -- what stands behind the place is awaited no more
    pub behind : (i : ℕ) (v : Version) → At w.versions i v → w.place i < s.looks + 1 → (i ≡ k → ⊥) → awaits s v ≡ false
    behind i v e g d =
        let z : w.place i < s.looks = less (w.place i) (w.place k) s.looks f.place g (λ y. d (f.apart i y)) in
        sym (aw_at now p s here v) ∙ (is_at now w f.marked i v e).passed p (position q p s here) (omega (arith, place_at now p s here))
      where
        less : (x c l : ℕ) → c ≡ l → x < l + 1 → (x ≡ c → ⊥) → x < l
        less x c l e g d = omega arith

    pub not-here : tested ≡ false → (v : Version) → At w.versions k v → awaits s v ≡ false
    not-here miss v e = go (off (w.shows (slot_in w.slots k).mask) p) refl
      where
        used : eqb (slot_in w.slots k).number 0 ≡ false
        used = ne_eqb (slot_in w.slots k).number 0 (λ z. omega (arith, (is_at now w f.marked k v e).some))

        go : (b : Bool) → off (w.shows (slot_in w.slots k).mask) p ≡ b → awaits s v ≡ false
        go true y = absurd (false≢true (sym miss ∙ rw (used, y) refl))
        go false y =
            not-true (awaits s v) (one-one (not (awaits s v)) (sym (own_bit k v e)
            ∙ omega (arith, bit_low (w.shows (slot_in w.slots k).mask) p, eqb-false (bit (w.shows (slot_in w.slots k).mask) p) 0 y)))

    pub passed : tested ≡ false → (i : ℕ) (v : Version) → At w.versions i v → w.place i < s.looks + 1 → awaits s v ≡ false
    passed miss i v e g = go (ℕ_discrete i k)
      where
        go : Dec (i ≡ k) → awaits s v ≡ false
        go (yes z) = not-here miss v (subst (λ (x : ℕ). At w.versions x v) z e)
        go (no z) = behind i v e g z

    pub hit-bit : tested ≡ true → (eqb (slot_in w.slots k).number 0 ≡ false) × (bit (w.shows (slot_in w.slots k).mask) p ≡ 0)
    hit-bit hit = go (eqb (slot_in w.slots k).number 0) refl (off (w.shows (slot_in w.slots k).mask) p) refl
      where
        go : (a : Bool) → eqb (slot_in w.slots k).number 0 ≡ a → (b : Bool) → off (w.shows (slot_in w.slots k).mask) p ≡ b
            → (eqb (slot_in w.slots k).number 0 ≡ false) × (bit (w.shows (slot_in w.slots k).mask) p ≡ 0)
        go true x b y = absurd (false≢true (sym (rw x refl) ∙ hit))
        go false x true y = (x, eqb-true _ _ y)
        go false x false y = absurd (false≢true (sym (rw (x, y) refl) ∙ hit))

    -- an awaited version
    pub found : tested ≡ true → (v : Version) × At w.versions k v × (awaits s v ≡ true)
    found hit = go (get_or w.versions k none) refl
      where
        go : (o : Option Version) → get_or w.versions k none ≡ o → (v : Version) × At w.versions k v × (awaits s v ≡ true)
        go none e = absurd (eqb-false _ _ (hit-bit hit).0 (ap (λ (x : Slot). x.number) (subst (OK now w k (slot_in w.slots k)) e (f.marked k))))
        go (some v) e = (v, e, not-false (awaits s v) (one-zero (not (awaits s v)) (sym (own_bit k v e) ∙ (hit-bit hit).1)))

  -- ---- what it keeps, with the masks K after it

  module _ (K : Masks) (stable : (i : ℕ) → i < 64 → (i ≡ p → ⊥) → bit K.stable i ≡ bit now.store.desk.masks.stable i) (local : (i : ℕ) → i < 64 → (i ≡ p → ⊥) → bit K.local i ≡ bit now.store.desk.masks.local i) where
    abbrev n : Moment
    n = passed_on now p s K

    pub look_passes : Fine n.store → ((j : ℕ) (v : Version) → At now.table j v → bit (bit_xor K.stable (slot_in now.store.table j).mask) p ≡ one_if (off K.local p && not (awaits s v)))
        → ((j : ℕ) (v : Version) → At now.table j v → j < s.looks + 1 → awaits s v ≡ false) → ((k : ℕ) (v : Version) → At now.shelf k v → now.t + k < s.looks + 1 → awaits s v ≡ false) → Inv n
    look_passes fine slot slot_past entry_past =
        scan-moves now p n.store.desk n.history n.seats q
        (record {
          fine = fine;
          past = passed_past now.history q.past s.ticket 1;
          is_n = q.is_n;
          last = q.last;
          live = refl;
          needs = those-same (awaited now.history) (awaited n.history) now.history.left (λ v m. sym (awaited-same q p s here 1 [] v (awaits_passed 1 s v)));
          seats = on_seats q p s here 1 [];
          seated = on_seated q p s here 1 [];
          cards = on_cards q p s here 1 [] (moved (card_of now.store p) false) (record { ticket = c.ticket; place = omega (arith, c.place); handed = c.handed; rest = c.rest });
          others = other q p s here 1 [];
          stable = stable;
          local = local;
          slot = λ j v e. slot j v e ∙ ap (λ (b : Bool). one_if (off K.local p && not b)) (sym (aw_same v));
          slot_past = λ j v e g. aw_same v ∙ slot_past j v e (rw (place_at n p _ (own q p s here 1 [])) at g);
          entry = λ k v e. aw_at now p s here v ∙ sym (aw_same v);
          entry_past = λ k v e g. aw_same v ∙ entry_past k v e (rw (place_at n p _ (own q p s here 1 [])) at g);
        })
      where
        c : Seated (card_of now.store p) s
        c = seat q p s here

        aw_same : (v : Version) → waits_for (get_or (seats_on now s 1 []) p none) v ≡ awaits s v
        aw_same v = aw_at n p _ (own q p s here 1 []) v ∙ awaits_passed 1 s v

  -- a version that it hands out
  module _ (v : Version) (made : In v (ever now.history)) (due : awaits s v ≡ true) where
    abbrev bytes : List (List ℕ)
    bytes = reads v ∷ []

    pub aw_else : (u : Version) → In u (ever now.history) → (u ≡ v → ⊥) → waits_for (get_or (seats_on now s 1 bytes) p none) u ≡ awaits s u
    aw_else u m d = ap (λ (o : Option Scan). waits_for o u) (own q p s here 1 bytes) ∙ handed_other q p s here 1 v made due u m d

    pub aw_gone : waits_for (get_or (seats_on now s 1 bytes) p none) v ≡ false
    aw_gone = ap (λ (o : Option Scan). waits_for o v) (own q p s here 1 bytes) ∙ awaits_gone 1 s v

    -- what else is awaited is awaited still
    pub awaited_else : (u : Version) → In u (ever now.history) → (u ≡ v → ⊥) → awaited (goes now.history s.ticket 1 bytes) u ≡ awaited now.history u
    awaited_else u m d = awaited-same q p s here 1 bytes u (handed_other q p s here 1 v made due u m d)

    pub look-hands : (K : Masks) (t e : List Slot) → Fine (looked_store now.store p true K t e) → T (looked_store now.store p true K t e) ≡ T now.store → R (looked_store now.store p true K t e) ≡ R now.store
        → Marked (handed_on now p s v K t e) (table_of (handed_on now p s v K t e)) → Marked (handed_on now p s v K t e) (shelf_of (handed_on now p s v K t e)) → Inv (handed_on now p s v K t e)
    look-hands K t e fine slots entries tm sm =
        record {
          fine = fine;
          past = handed-past now.history q.past s.ticket 1 s v (runs_at q p s here) refl (began_v q p s here 1 v made due) due;
          is_n = q.is_n;
          is_t = slots ∙ q.is_t;
          is_r = entries ∙ q.is_r;
          last = q.last;
          slots = q.slots;
          entries = length-keep (awaited (goes now.history s.ticket 1 bytes)) now.shelf ∙ q.entries;
          seats = on_seats q p s here 1 bytes;
          seated = on_seated q p s here 1 bytes;
          cards = on_cards q p s here 1 bytes (moved (card_of now.store p) true) (record { ticket = c.ticket; place = omega (arith, c.place); handed = ap suc c.handed; rest = c.rest });
          table_marks = tm;
          shelf_marks = sm;
          tabled = q.tabled;
          shelved = on_shelved q p s here 1 bytes (handed_less q p s here 1 v made due);
        }
      where
        c : Seated (card_of now.store p) s
        c = seat q p s here
