-- A look of next, and its finish, leave a store fine, and the scan where it is.
use mathlib.Core.Path.{◌≡◌, refl, sym, ap, ◌∙◌, subst}
use mathlib.Core.Bool.{Bool, true, false}
use mathlib.Core.Option.{some, none-ne-some, some-injective}
use mathlib.Core.List.{List}
use mathlib.Core.Logic.{inl, inr}
use Prim.Native.Nat.{ℕ, suc, ◌+◌, ◌-◌, ◌^◌, ◌≤◌, ◌<◌}
use native.Mathlib.Omega.{arith}
use lib.Bits.{bit_or, or_lt, xor_lt}
use lib.Dec.{ltb, eqb}
use lib.ListN.{length, get_or, set, length-set}
use lib.Seq.{get_or-set_same}
use borrow.Author.Tests.{ltb-true, ltb-false, eqb-true, eqb-false, lt-ltb, le-ltb}
use Rattle.rules.specs.declared.Card.{Card}
use Rattle.rules.specs.Calls.{slot_in, card_of}
use Rattle.rules.specs.Masks.{bit, off, all_ones, scan_mask, Masks, walk_ended, ended, STATUS_MASK_SCAN_UPD, REMSET_MASK_UPD, ACTIVE_MASK_UPD}
use Rattle.rules.specs.Memory.{Slot, free, idle, Store, store, T, R}
use Rattle.rules.specs.Next.{desk_with, moved, turned, in_table, flipped, table_look, on_shelf, freed_if, taken, shelf_look, look_at, look, at_end, finish}
use Rattle.rules.proofs.Bits.{bit_low, scan_small}
use Rattle.rules.proofs.TableOne.{set_own, walk-ended-local}
use Rattle.stores.proofs.OnePosition.{Fine, Moved, moved-not, moved-walk-ended, moved-ended, moves, busy_below}
use Rattle.stores.proofs.Sizes.{CardSized, SlotSized, set_all, idle_sized, free_sized}
use Rattle.stores.proofs.SoundDesk.{Idle, Busy, CardSound}

ended_own : (m : Masks) (p : ℕ) → bit (ended m p).active p ≡ 1
unfolding ended ACTIVE_MASK_UPD
ended_own m p = set_own m.active p

ended-local : (m : Masks) (p : ℕ) → bit m.local p ≡ 1 → bit (ended m p).local p ≡ 1
unfolding ended
ended-local m p e = e

-- the scan at p, on its card
abbrev pub BusyAt : Store → ℕ → Type 0
BusyAt S p = Busy S.desk.masks (T S) (R S) S.desk.last (card_of S p) p

module _ (S : Store) (f : Fine S) (p : ℕ) (hp : p < 64) (b : BusyAt S p) where
  below : p < S.desk.n
  below = busy_below S f p hp b

  pub moved_sized : (x : Bool) → (card_of S p).place < T S + R S → CardSized (moved (card_of S p) x)
  moved_sized true h = record { ticket = (f.sized.desk.cards p).ticket; place = omega (arith, f.small); handed = omega (arith, f.small, b.handed); rest = (f.sized.desk.cards p).rest }
  moved_sized false h = record { ticket = (f.sized.desk.cards p).ticket; place = omega (arith, f.small); handed = (f.sized.desk.cards p).handed; rest = (f.sized.desk.cards p).rest }

  -- the card one place on, under masks that keep the active bit
  pub moved_busy : (x : Bool) (m : Masks) → bit m.active p ≡ 0 → (card_of S p).place < T S + R S → ltb (suc (card_of S p).place) (T S) ≡ off m.local p
      → Busy m (T S) (R S) S.desk.last (moved (card_of S p) x) p
  moved_busy true m a h l = record { ticket = b.ticket; given = b.given; active = a; place = h; local = l; handed = omega (arith, b.handed); rest = b.rest }
  moved_busy false m a h l = record { ticket = b.ticket; given = b.given; active = a; place = h; local = l; handed = omega (arith, b.handed); rest = b.rest }

  -- ---- a look at the table

  module _ (h : (card_of S p).place < T S) where
    turned-moved : (y : Bool) → Moved S.desk.n p S.desk.masks (turned y S.desk.masks p)
    turned-moved true = moved-walk-ended S f p below
    turned-moved false = moved-not S f p below

    turned-active : (y : Bool) → bit (turned y S.desk.masks p).active p ≡ 0
    unfolding walk_ended
    turned-active true = b.active
    turned-active false = b.active

    turned-local : (y : Bool) → eqb (suc (card_of S p).place) (T S) ≡ y → ltb (suc (card_of S p).place) (T S) ≡ off (turned y S.desk.masks p).local p
    turned-local true e =
        let z : suc (card_of S p).place ≡ T S = eqb-true _ _ e in
        rw (walk-ended-local S.desk.masks p, le-ltb (suc (card_of S p).place) (T S) (omega arith)) refl
    turned-local false e =
        let z : suc (card_of S p).place ≡ T S → ⊥ = eqb-false _ _ e in
        lt-ltb (suc (card_of S p).place) (T S) (step (card_of S p).place (T S) h z) ∙ sym (lt-ltb (card_of S p).place (T S) h) ∙ b.local
      where
        step : (x y : ℕ) → x < y → (suc x ≡ y → ⊥) → suc x < y
        step x y h z = omega arith

    pub table-desk : (x : Bool) (t : List Slot) → length t ≡ T S → ((i : ℕ) → SlotSized (get_or t i free))
        → Fine (store (desk_with S.desk (turned (eqb (suc (card_of S p).place) (T S)) S.desk.masks p) p (moved (card_of S p) x)) t S.shelf)
    table-desk x t lt zt =
        let y : Bool = eqb (suc (card_of S p).place) (T S) in
        moves S f p below S.desk.last (turned y S.desk.masks p) (moved (card_of S p) x) t S.shelf (omega arith) f.sized.desk.last (turned-moved y)
        (inr (moved_busy x (turned y S.desk.masks p) (turned-active y) (omega arith) (turned-local y refl))) (moved_sized x (omega arith)) lt refl zt f.sized.shelf

  pub flipped_sized : (s : Slot) → SlotSized s → SlotSized (flipped s p)
  unfolding STATUS_MASK_SCAN_UPD
  flipped_sized s z = record { number = z.number; body = z.body; mask = xor_lt 64 s.mask (scan_mask p) z.mask (scan_small 64 p hp); bytes = z.bytes }

  pub table_fine : (x : Bool) → (card_of S p).place < T S → Fine (table_look x S p (card_of S p).place).0
  unfolding table_look
  table_fine true h =
      let i : ℕ = (card_of S p).place in
      table-desk h true (set S.table i (flipped (slot_in S.table i) p)) (length-set S.table i (flipped (slot_in S.table i) p))
      (set_all SlotSized free S.table i (flipped (slot_in S.table i) p) f.sized.table (flipped_sized (slot_in S.table i) (f.sized.table i)))
  table_fine false h = table-desk h false S.table refl f.sized.table

  -- ---- a look at the shelf

  past-local : T S ≤ (card_of S p).place → off S.desk.masks.local p ≡ false
  past-local h = sym b.local ∙ le-ltb (card_of S p).place (T S) h

  pub shelf-desk : (x : Bool) (s : List Slot) → T S ≤ (card_of S p).place → (card_of S p).place < T S + R S → length s ≡ R S → ((i : ℕ) → SlotSized (get_or s i free))
      → Fine (store (desk_with S.desk S.desk.masks p (moved (card_of S p) x)) S.table s)
  shelf-desk x s h k ls zs =
      moves S f p below S.desk.last S.desk.masks (moved (card_of S p) x) S.table s (omega arith) f.sized.desk.last (moved-not S f p below)
      (inr (moved_busy x S.desk.masks b.active k (le-ltb (suc (card_of S p).place) (T S) (omega arith) ∙ sym (past-local h)))) (moved_sized x k) refl ls f.sized.table zs

  kept_sized : (x : Bool) (s : Slot) (m : ℕ) → SlotSized s → m < 2 ^ 64 → SlotSized (freed_if x s m)
  kept_sized true s m z h = free_sized
  kept_sized false s m z h = record { number = z.number; body = z.body; mask = h; bytes = z.bytes }

  taken_sized : (s : Slot) → SlotSized s → SlotSized (taken s p)
  unfolding REMSET_MASK_UPD
  taken_sized s z = kept_sized (all_ones 64 (REMSET_MASK_UPD (scan_mask p) s.mask)) s (bit_or (scan_mask p) s.mask) z (or_lt 64 (scan_mask p) s.mask (scan_small 64 p hp) z.mask)

  pub shelf_fine : (x : Bool) (k : ℕ) → T S ≤ (card_of S p).place → (card_of S p).place < T S + R S → Fine (shelf_look x S p k).0
  unfolding shelf_look
  shelf_fine true k h e =
      shelf-desk true (set S.shelf k (taken (slot_in S.shelf k) p)) h e (length-set S.shelf k (taken (slot_in S.shelf k) p))
      (set_all SlotSized free S.shelf k (taken (slot_in S.shelf k) p) f.sized.shelf (taken_sized (slot_in S.shelf k) (f.sized.shelf k)))
  shelf_fine false k h e = shelf-desk false S.shelf h e refl f.sized.shelf

  pub not_at_end : at_end S p ≡ false → (card_of S p).place < T S + R S
  not_at_end e = go (card_of S p).place (T S + R S) b.place (eqb-false _ _ e)
    where
      go : (x y : ℕ) → x ≤ y → (x ≡ y → ⊥) → x < y
      go x y h d = omega arith

  pub look_fine : at_end S p ≡ false → Fine (look S p).0
  unfolding look_at
  look_fine e = go (ltb (card_of S p).place (T S)) refl
    where
      go : (x : Bool) → ltb (card_of S p).place (T S) ≡ x → Fine (look_at x S p (card_of S p).place).0
      go true q = table_fine (in_table S p (card_of S p).place) (ltb-true _ _ q)
      go false q = shelf_fine (on_shelf S p ((card_of S p).place - T S)) ((card_of S p).place - T S) (ltb-false _ _ q) (not_at_end e)

  -- the scan's card after the look
  pub look-card : at_end S p ≡ false → (x : Bool) × (card_of (look S p).0 p ≡ moved (card_of S p) x)
  unfolding look_at table_look shelf_look
  look-card e = go (ltb (card_of S p).place (T S))
    where
      here : (c : Card) → get_or (set S.desk.cards p c) p idle ≡ c
      here c = get_or-set_same S.desk.cards p c idle (omega (arith, f.sized.desk.all))

      table : (x : Bool) → (y : Bool) × (card_of (table_look x S p (card_of S p).place).0 p ≡ moved (card_of S p) y)
      table true = (true, here (moved (card_of S p) true))
      table false = (false, here (moved (card_of S p) false))

      shelf : (k : ℕ) (x : Bool) → (y : Bool) × (card_of (shelf_look x S p k).0 p ≡ moved (card_of S p) y)
      shelf k true = (true, here (moved (card_of S p) true))
      shelf k false = (false, here (moved (card_of S p) false))

      go : (x : Bool) → (y : Bool) × (card_of (look_at x S p (card_of S p).place).0 p ≡ moved (card_of S p) y)
      go true = table (in_table S p (card_of S p).place)
      go false = shelf ((card_of S p).place - T S) (on_shelf S p ((card_of S p).place - T S))

  -- "Each look moves the place on by one"
  pub look_place : at_end S p ≡ false → (card_of (look S p).0 p).place ≡ suc (card_of S p).place
  look_place e = let w = look-card e in ap (λ (c : Card). c.place) w.1 ∙ on w.0
    where
      on : (x : Bool) → (moved (card_of S p) x).place ≡ suc (card_of S p).place
      on true = refl
      on false = refl

  pub finish_fine : at_end S p ≡ true → Fine (finish S p)
  unfolding finish
  finish_fine e =
      let z : (card_of S p).place ≡ T S + R S = eqb-true _ _ e in
      moves S f p below S.desk.last (ended S.desk.masks p) idle S.table S.shelf (omega arith) f.sized.desk.last (moved-ended S f p below) (inl (gone z)) idle_sized refl refl f.sized.table f.sized.shelf
    where
      gone : (card_of S p).place ≡ T S + R S → Idle (ended S.desk.masks p) idle p
      gone z = record { none = refl; active = ended_own S.desk.masks p; local = one (past-local (omega arith)) }
        where
          one : off S.desk.masks.local p ≡ false → bit (ended S.desk.masks p).local p ≡ 1
          one q = ended-local S.desk.masks p (omega (arith, bit_low S.desk.masks.local p, eqb-false (bit S.desk.masks.local p) 0 q))

-- a position with a ticket is busy
pub ticket_busy : (S : Store) → Fine S → (p : ℕ) → p < 64 → 1 ≤ (card_of S p).ticket.0 → BusyAt S p
ticket_busy S f p hp h = go (f.sound.cards p (omega (arith, f.sized.desk.all)))
  where
    go : CardSound S.desk.masks (T S) (R S) S.desk.last (card_of S p) p → BusyAt S p
    go (inl q) = let z : (card_of S p).ticket.0 ≡ 0 = ap (λ (c : Card). c.ticket.0) q.none in absurd (omega arith)
    go (inr q) = q

pub look_busy : (S : Store) (f : Fine S) (p : ℕ) (hp : p < 64) (b : BusyAt S p) → at_end S p ≡ false → BusyAt (look S p).0 p
look_busy S f p hp b e = ticket_busy (look S p).0 (look_fine S f p hp b e) p hp (same (look-card S f p hp b e).0 (look-card S f p hp b e).1)
  where
    same : (x : Bool) → card_of (look S p).0 p ≡ moved (card_of S p) x → 1 ≤ (card_of (look S p).0 p).ticket.0
    same true q = let z : (card_of (look S p).0 p).ticket.0 ≡ (card_of S p).ticket.0 = ap (λ (c : Card). c.ticket.0) q in omega (arith, b.ticket)
    same false q = let z : (card_of (look S p).0 p).ticket.0 ≡ (card_of S p).ticket.0 = ap (λ (c : Card). c.ticket.0) q in omega (arith, b.ticket)

-- what is handed out stands in the table or on the shelf
pub look_found : (S : Store) → Fine S → (p : ℕ) (v : Slot) → (look S p).1 ≡ some v → SlotSized v
unfolding look_at table_look shelf_look
look_found S f p v e = go (ltb (card_of S p).place (T S)) e
  where
    table : (x : Bool) (i : ℕ) → (table_look x S p i).1 ≡ some v → SlotSized v
    table true i q = subst SlotSized (some-injective (slot_in S.table i) v q) (f.sized.table i)
    table false i q = absurd (none-ne-some v q)

    shelf : (x : Bool) (k : ℕ) → (shelf_look x S p k).1 ≡ some v → SlotSized v
    shelf true k q = subst SlotSized (some-injective (slot_in S.shelf k) v q) (f.sized.shelf k)
    shelf false k q = absurd (none-ne-some v q)

    go : (x : Bool) → (look_at x S p (card_of S p).place).1 ≡ some v → SlotSized v
    go true q = table (in_table S p (card_of S p).place) (card_of S p).place q
    go false q = shelf (on_shelf S p ((card_of S p).place - T S)) ((card_of S p).place - T S) q
