-- A look at the table keeps the invariant, whether it passes or hands out, and whether it is the last of the table walk or not.
use mathlib.Core.Path.{◌≡◌, refl, sym, ap, ◌∙◌}
use mathlib.Core.Bool.{Bool, true, false, not, ◌&&◌}
use mathlib.Core.Option.{Option, none, some}
use mathlib.Core.List.{[], ◌∷◌, map}
use Prim.Native.Nat.{ℕ, suc, ◌+◌, ◌<◌}
use native.Mathlib.Omega.{arith}
use native.Mathlib.Decide.{ℕ_discrete}
use lib.Bits.{bit_xor}
use lib.Dec.{eqb}
use lib.ListN.{length, get_or, set}
use lib.Seq.{get_or-set_same, get_or-set_other}
use borrow.Author.Tests.{eqb-true, lt-ltb}
use Rattle.demands.specs.History.{Version, Scan, reads, awaits, awaited}
use Rattle.demands.specs.Lists.{standing, keep}
use Rattle.demands.specs.Masks.{one_if}
use Rattle.rules.specs.Calls.{slot_in, card_of}
use Rattle.rules.specs.Masks.{bit, off, scan_mask, Masks, walk_ended, STABLE_FLIP, LCL_ACTIVE_MASK_UPD, STATUS_MASK_SCAN_UPD}
use Rattle.rules.specs.Memory.{free, T}
use Rattle.rules.specs.Next.{turned, in_table, flipped, table_look}
use Rattle.rules.proofs.Bits.{bit_low, bit-xor}
use Rattle.rules.proofs.TableOne.{flip_own, flip_other, set_own, set_other}
use Rattle.demands.proofs.lists.Apart.{apart_perm, apart_across}
use Rattle.demands.proofs.history.Past.{ever, number_of, change_of}
use Rattle.demands.proofs.invariant.GoesOn.{own, other}
use Rattle.demands.proofs.invariant.Invariant.{Inv, position, seat, busy, at_live, at_needed, slot_of}
use Rattle.demands.proofs.invariant.Looks.{passed_on, handed_on, Faces, own_bit, behind, not-here, passed, hit-bit, found, look_passes, aw_else, aw_gone, awaited_else, look-hands}
use Rattle.demands.proofs.invariant.Marks.{Is, OK, is_still, marked_map}
use Rattle.demands.proofs.invariant.Moment.{Moment, aw_at, place_at, table_of, shelf_of}
use Rattle.demands.proofs.invariant.ScanMoves.{xor_else}
use Rattle.demands.proofs.lists.Lists.{In, in_left, in_right, back}
use Rattle.demands.proofs.lists.Places.{At, at_below, one_place, keep_all}
use Rattle.stores.proofs.LooksFine.{table_fine}
use Rattle.stores.proofs.Stays.{table_kept}

-- ---- the masks as a table walk ends, or goes on

turned-stable : (y : Bool) (m : Masks) (p i : ℕ) → (i ≡ p → ⊥) → bit (turned y m p).stable i ≡ bit m.stable i
unfolding walk_ended STABLE_FLIP
turned-stable true m p i d = flip_other m.stable p i d
turned-stable false m p i d = refl

turned-local : (y : Bool) (m : Masks) (p i : ℕ) → (i ≡ p → ⊥) → bit (turned y m p).local i ≡ bit m.local i
unfolding walk_ended LCL_ACTIVE_MASK_UPD
turned-local true m p i d = set_other m.local p i d
turned-local false m p i d = refl

-- the scan's own bit of stable XOR status, where at the end of the walk it awaits nothing more
turned_own : (y : Bool) (m : Masks) (p x : ℕ) (a : Bool) → off m.local p ≡ true → bit (bit_xor m.stable x) p ≡ one_if (not a) → (y ≡ true → a ≡ false)
    → bit (bit_xor (turned y m p).stable x) p ≡ one_if (off (turned y m p).local p && not a)
unfolding walk_ended STABLE_FLIP LCL_ACTIVE_MASK_UPD
turned_own true m p x a l b f =
    let z : bit (bit_xor m.stable x) p ≡ 1 = b ∙ ap (λ (c : Bool). one_if (not c)) (f refl) in
    bit-xor (bit_xor m.stable (scan_mask p)) x p ∙ rw (flip_own m.stable p, set_own m.local p) (omega (arith, bit_low m.stable p, bit_low x p, sym (bit-xor m.stable x p) ∙ z))
turned_own false m p x a l b f = rw l b

-- its own bit of a status that a look has flipped, and the others
flipped_own : (x y p : ℕ) → bit (bit_xor x y) p ≡ 0 → bit (bit_xor x (STATUS_MASK_SCAN_UPD y (scan_mask p))) p ≡ 1
unfolding STATUS_MASK_SCAN_UPD
flipped_own x y p e = bit-xor x (bit_xor y (scan_mask p)) p ∙ rw (flip_own y p) (omega (arith, bit_low x p, bit_low y p, sym (bit-xor x y p) ∙ e))

flipped_other : (y p i : ℕ) → (i ≡ p → ⊥) → bit (STATUS_MASK_SCAN_UPD y (scan_mask p)) i ≡ bit y i
unfolding STATUS_MASK_SCAN_UPD
flipped_other y p i d = flip_other y p i d

module _ {now : Moment} (q : Inv now) (p : ℕ) (s : Scan) (here : At now.seats p s) (early : s.looks < now.t) where
  hp : p < 64
  hp = position q p s here

  -- the slot of the look
  abbrev j : ℕ
  j = (card_of now.store p).place

  at_looks : (card_of now.store p).place ≡ s.looks
  at_looks = (seat q p s here).place

  in_walk : (card_of now.store p).place < T now.store
  in_walk = omega (arith, at_looks, q.is_t)

  walking : off now.store.desk.masks.local p ≡ true
  walking = sym (busy q p s here).local ∙ lt-ltb _ _ in_walk

  faces : Faces now p s (table_of now) (card_of now.store p).place
  faces = record { marked = q.table_marks; speaks = walking; place = at_looks; apart = λ i z. z }

  -- the end of the table walk
  abbrev last : Bool
  last = eqb (suc j) (T now.store)

  abbrev m' : Masks
  m' = turned last now.store.desk.masks p

  all_passed : last ≡ true → (i : ℕ) → i < length now.table → i < s.looks + 1
  all_passed e i k = let z : suc (card_of now.store p).place ≡ T now.store = eqb-true _ _ e in omega (arith, at_looks, q.is_t, q.slots)

  stable : (i : ℕ) → i < 64 → (i ≡ p → ⊥) → bit m'.stable i ≡ bit now.store.desk.masks.stable i
  stable i hi d = turned-stable last now.store.desk.masks p i d

  local : (i : ℕ) → i < 64 → (i ≡ p → ⊥) → bit m'.local i ≡ bit now.store.desk.masks.local i
  local i hi d = turned-local last now.store.desk.masks p i d

  -- the scan's own bit of a slot that it does not await where the walk ends
  own_turned : (i : ℕ) (v : Version) → At now.table i v → (i < s.looks + 1 → awaits s v ≡ false)
      → bit (bit_xor m'.stable (slot_in now.store.table i).mask) p ≡ one_if (off m'.local p && not (awaits s v))
  own_turned i v e f =
      turned_own last now.store.desk.masks p (slot_in now.store.table i).mask (awaits s v) walking (own_bit q p s here faces i v e)
      (λ z. f (all_passed z i (at_below now.table i v e)))

  -- ---- passed

  module _ (miss : in_table now.store p (card_of now.store p).place ≡ false) where
    -- what stands at the place is not awaited
    pub table-not-here : (v : Version) → At now.table (card_of now.store p).place v → awaits s v ≡ false
    table-not-here = not-here q p s here faces miss

    behind_or_here : (i : ℕ) (v : Version) → At now.table i v → i < s.looks + 1 → awaits s v ≡ false
    behind_or_here = passed q p s here faces miss

    pub table_pass_keeps : Inv (passed_on now p s m')
    unfolding table_look
    table_pass_keeps =
        look_passes q p s here m' stable local (table_fine now.store q.fine p hp (busy q p s here) false in_walk) (λ i v e. own_turned i v e (behind_or_here i v e)) behind_or_here
        (λ k v e g. absurd (omega arith))

  -- ---- handed out

  module _ (hit : in_table now.store p (card_of now.store p).place ≡ true) where
    -- an awaited version stands at the place
    pub table_found : (v : Version) × At now.table (card_of now.store p).place v × (awaits s v ≡ true)
    table_found = found q p s here faces hit

    abbrev v : Version
    v = table_found.0

    live_v : In v now.history.live
    live_v = at_live q j v table_found.1

    ever_v : In v (ever now.history)
    ever_v = in_left v now.history.live now.history.left live_v

    -- the moment after it
    abbrev n : Moment
    n = handed_on now p s v m' (set now.store.table j (flipped (slot_in now.store.table j) p)) now.store.shelf

    elsewhere : (i : ℕ) (u : Version) → At now.table i u → (i ≡ (card_of now.store p).place → ⊥) → u ≡ table_found.0 → ⊥
    elsewhere i u e d z = d (one_place number_of now.table (apart_perm number_of now.history.live (standing now.table) (back q.tabled) q.past.numbers) i j u v e table_found.1 (ap number_of z))

    off-shelf : (u : Version) → In u now.history.left → u ≡ table_found.0 → ⊥
    off-shelf u m z = apart_across change_of now.history.live now.history.left q.past.names v u live_v m (ap change_of (sym z))

    -- the other slots, and the slot of the look
    slots-hit : (i : ℕ) (u : Version) → At now.table i u → (i ≡ (card_of now.store p).place → ⊥) → Is now (table_of now) i (slot_in now.store.table i) u → Is n (table_of n) i (slot_in now.store.table i) u
    slots-hit i u e d w =
        let x = aw_else q p s here v ever_v table_found.2 u (in_left u now.history.live now.history.left (at_live q i u e)) (elsewhere i u e d) in
        let b : i < s.looks + 1 → awaits s u ≡ false = λ g. behind q p s here faces i u e g d in
        is_still now n p (other q p s here 1 (reads v ∷ [])) refl (table_of now) (table_of n) (λ i. refl) (λ i hi d. ap (λ (y : ℕ). eqb y 0) (local i hi d))
        i (slot_in now.store.table i) (slot_in now.store.table i) u refl refl (λ i hi d. xor_else _ _ _ _ i (stable i hi d) refl) (λ _. rw x (own_turned i u e b))
        (λ _ g. x ∙ b (rw (place_at n p _ (own q p s here 1 (reads v ∷ []))) at g)) w

    slot-hit : Is n (table_of n) (card_of now.store p).place (flipped (slot_in now.store.table (card_of now.store p).place) p) table_found.0
    slot-hit =
        let x = aw_gone q p s here v ever_v table_found.2 in
        is_still now n p (other q p s here 1 (reads v ∷ [])) refl (table_of now) (table_of n) (λ i. refl) (λ i hi d. ap (λ (y : ℕ). eqb y 0) (local i hi d))
        j (slot_in now.store.table j) (flipped (slot_in now.store.table j) p) v refl refl (λ i hi d. xor_else _ _ _ _ i (stable i hi d) (flipped_other (slot_in now.store.table j).mask p i d))
        (λ _. rw x (turned_own last now.store.desk.masks p (STATUS_MASK_SCAN_UPD (slot_in now.store.table j).mask (scan_mask p)) false walking
        (flipped_own now.store.desk.masks.stable (slot_in now.store.table j).mask p (hit-bit q p s here faces hit).1) (λ f. refl)))
        (λ _ g. x) (slot_of q j v table_found.1)

    entries-hit : (k : ℕ) (u : Version) → At now.shelf k u → Is now (shelf_of now) k (slot_in now.store.shelf k) u → Is n (shelf_of n) k (slot_in now.store.shelf k) u
    entries-hit k u e w =
        let m = (at_needed q k u e).0 in
        let x = aw_else q p s here v ever_v table_found.2 u (in_right u now.history.live now.history.left m) (off-shelf u m) in
        is_still now n p (other q p s here 1 (reads v ∷ [])) refl (shelf_of now) (shelf_of n) (λ i. refl) (λ i hi d. refl)
        k (slot_in now.store.shelf k) (slot_in now.store.shelf k) u refl refl (λ i hi d. refl) (λ _. w.bits p hp ∙ ap (λ (b : Bool). one_if (not b)) (aw_at now p s here u ∙ sym x))
        (λ _ g. absurd (omega (arith, place_at n p _ (own q p s here 1 (reads v ∷ []))))) w

    -- the shelf is as it was
    shelf-same : map (keep (awaited n.history)) now.shelf ≡ now.shelf
    shelf-same =
        keep_all (awaited n.history) now.shelf
        (λ k u e. let m = at_needed q k u e in awaited_else q p s here v ever_v table_found.2 u (in_right u now.history.live now.history.left m.0) (off-shelf u m.0) ∙ m.1)

    pub table-hit-keeps : Inv n
    unfolding table_look
    table-hit-keeps =
        look-hands q p s here v ever_v table_found.2 m' n.store.table now.store.shelf (table_fine now.store q.fine p hp (busy q p s here) true in_walk)
        (table_kept true now.store p j).slots refl (λ i. slots i (ℕ_discrete i j))
        (λ k. rw shelf-same (marked_map now n (shelf_of now) (shelf_of n) now.store.shelf now.shelf entries-hit q.shelf_marks k))
      where
        slots : (i : ℕ) → Dec (i ≡ (card_of now.store p).place) → OK n (table_of n) i (slot_in n.store.table i) (get_or now.table i none)
        slots i (yes z) = rw (z, get_or-set_same now.store.table j (flipped (slot_in now.store.table j) p) free in_walk, table_found.1) slot-hit
        slots i (no z) = rw (get_or-set_other now.store.table j i (flipped (slot_in now.store.table j) p) free z) (go (get_or now.table i none) refl (q.table_marks i))
          where
            go : (o : Option Version) → get_or now.table i none ≡ o → OK now (table_of now) i (slot_in now.store.table i) o → OK n (table_of n) i (slot_in now.store.table i) o
            go none e w = w
            go (some u) e w = slots-hit i u e z w
