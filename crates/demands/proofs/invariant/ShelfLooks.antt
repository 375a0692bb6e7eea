-- A look at the shelf keeps the invariant, whether it passes or hands out, and whether the entry is then freed or kept.
use mathlib.Core.Path.{◌≡◌, refl, sym, ap, ◌∙◌, subst}
use mathlib.Core.Bool.{Bool, true, false, not, ◌&&◌, cond, false≢true}
use mathlib.Core.Option.{Option, none, some}
use mathlib.Core.List.{[], ◌∷◌, map}
use Prim.Native.Nat.{ℕ, ◌+◌, ◌-◌, ◌^◌, ◌≤◌, ◌<◌}
use native.Mathlib.Omega.{arith}
use native.Mathlib.Decide.{ℕ_discrete}
use lib.Bits.{or_comm, or_lt}
use lib.ListN.{length, get_or, set}
use lib.Seq.{get_or-set_same, get_or-set_other}
use Rattle.demands.specs.History.{Version, Scan, reads, awaits, awaited, needed}
use Rattle.demands.specs.Lists.{standing, keep}
use Rattle.demands.specs.Masks.{one_if}
use Rattle.rules.specs.Calls.{slot_in, card_of}
use Rattle.rules.specs.Masks.{bit, off, all_ones, scan_mask, REMSET_MASK_UPD}
use Rattle.rules.specs.Memory.{slot, free, T, R}
use Rattle.rules.specs.Next.{on_shelf, freed_if, taken, shelf_look}
use Rattle.rules.proofs.Bits.{scan_small}
use Rattle.rules.proofs.TableOne.{set_own, set_other}
use Rattle.demands.proofs.lists.Apart.{apart_perm, apart-those, apart_right, apart_across}
use Rattle.demands.proofs.history.Past.{ever, change_of}
use Rattle.demands.proofs.invariant.GoesOn.{own, other, on_awaited, awaited_on}
use Rattle.demands.proofs.invariant.Invariant.{Inv, position, seat, busy, at_live, at_needed, slot_of, entry_of}
use Rattle.demands.proofs.invariant.Looks.{passed_on, handed_on, Faces, behind, not-here, passed, found, look_passes, aw_else, aw_gone, awaited_else, look-hands}
use Rattle.demands.proofs.invariant.Marks.{Is, OK, is_still, marked_map, ones_none, some-zero}
use Rattle.demands.proofs.invariant.Moment.{Moment, aw, aw_at, place_at, table_of, shelf_of}
use Rattle.demands.proofs.lists.Lists.{In, in_left, in_right, back}
use Rattle.demands.proofs.lists.Places.{At, at_below, one_place, get_or-keep}
use Rattle.stores.proofs.LooksFine.{shelf_fine}
use Rattle.stores.proofs.Stays.{shelf_kept}

-- ---- the mask of an entry that has been looked at

set-bit : (x p : ℕ) → bit (REMSET_MASK_UPD (scan_mask p) x) p ≡ 1
unfolding REMSET_MASK_UPD
set-bit x p = rw (or_comm (scan_mask p) x) (set_own x p)

set_else : (x p i : ℕ) → (i ≡ p → ⊥) → bit (REMSET_MASK_UPD (scan_mask p) x) i ≡ bit x i
unfolding REMSET_MASK_UPD
set_else x p i d = rw (or_comm (scan_mask p) x) (set_other x p i d)

set_small : (x p : ℕ) → p < 64 → x < 2 ^ 64 → REMSET_MASK_UPD (scan_mask p) x < 2 ^ 64
unfolding REMSET_MASK_UPD
set_small x p h k = or_lt 64 (scan_mask p) x (scan_small 64 p h) k

module _ {now : Moment} (q : Inv now) (p : ℕ) (s : Scan) (here : At now.seats p s) (late : now.t ≤ s.looks) (more : s.looks < now.t + now.r) where
  hp : p < 64
  hp = position q p s here

  at_looks : (card_of now.store p).place ≡ s.looks
  at_looks = (seat q p s here).place

  -- the entry of the look
  abbrev k : ℕ
  k = (card_of now.store p).place - T now.store

  in_shelf : (card_of now.store p).place - T now.store < length now.store.shelf
  in_shelf = omega (arith, at_looks, q.is_t, q.is_r)

  past-table : T now.store ≤ (card_of now.store p).place
  past-table = omega (arith, at_looks, q.is_t)

  before_end : (card_of now.store p).place < T now.store + R now.store
  before_end = omega (arith, at_looks, q.is_t, q.is_r)

  faces : Faces now p s (shelf_of now) ((card_of now.store p).place - T now.store)
  faces = record { marked = q.shelf_marks; speaks = refl; place = omega (arith, at_looks, q.is_t); apart = λ i z. same now.t i k z }
    where
      same : (t i j : ℕ) → t + i ≡ t + j → i ≡ j
      same t i j e = omega arith

  -- nothing that stands in the table is awaited
  table_behind : (i : ℕ) (v : Version) → At now.table i v → awaits s v ≡ false
  table_behind i v e = sym (aw_at now p s here v) ∙ (slot_of q i v e).passed p hp (omega (arith, place_at now p s here, at_below now.table i v e, q.slots))

  -- ---- passed

  module _ (miss : on_shelf now.store p ((card_of now.store p).place - T now.store) ≡ false) where
    pub shelf-not-here : (v : Version) → At now.shelf ((card_of now.store p).place - T now.store) v → awaits s v ≡ false
    shelf-not-here = not-here q p s here faces miss

    pub shelf_pass_keeps : Inv (passed_on now p s now.store.desk.masks)
    unfolding shelf_look
    shelf_pass_keeps =
        look_passes q p s here now.store.desk.masks (λ i hi d. refl) (λ i hi d. refl) (shelf_fine now.store q.fine p hp (busy q p s here) false k past-table before_end)
        (λ i v e. (slot_of q i v e).bits p hp ∙ ap (λ (b : Bool). one_if (off now.store.desk.masks.local p && not b)) (aw_at now p s here v)) (λ i v e g. table_behind i v e) (passed q p s here faces miss)

  -- ---- handed out

  module _ (hit : on_shelf now.store p ((card_of now.store p).place - T now.store) ≡ true) where
    pub shelf_found : (v : Version) × At now.shelf ((card_of now.store p).place - T now.store) v × (awaits s v ≡ true)
    shelf_found = found q p s here faces hit

    abbrev v : Version
    v = shelf_found.0

    left_v : In v now.history.left
    left_v = (at_needed q k v shelf_found.1).0

    ever_v : In v (ever now.history)
    ever_v = in_right v now.history.live now.history.left left_v

    -- the moment after it
    abbrev n : Moment
    n = handed_on now p s v now.store.desk.masks now.store.table (set now.store.shelf k (taken (slot_in now.store.shelf k) p))

    in_table : (i : ℕ) (u : Version) → At now.table i u → u ≡ shelf_found.0 → ⊥
    in_table i u e z = apart_across change_of now.history.live now.history.left q.past.names u v (at_live q i u e) left_v (ap change_of z)

    elsewhere : (i : ℕ) (u : Version) → At now.shelf i u → (i ≡ (card_of now.store p).place - T now.store → ⊥) → u ≡ shelf_found.0 → ⊥
    elsewhere i u e d z =
        d (one_place change_of now.shelf (apart_perm change_of (needed now.history) (standing now.shelf) (back q.shelved) (apart-those change_of (awaited now.history) now.history.left (apart_right change_of now.history.live now.history.left q.past.names)))
        i k u v e shelf_found.1 (ap change_of z))

    slots-hit : (i : ℕ) (u : Version) → At now.table i u → Is now (table_of now) i (slot_in now.store.table i) u → Is n (table_of n) i (slot_in now.store.table i) u
    slots-hit i u e w =
        let x = aw_else q p s here v ever_v shelf_found.2 u (in_left u now.history.live now.history.left (at_live q i u e)) (in_table i u e) in
        is_still now n p (other q p s here 1 (reads v ∷ [])) refl (table_of now) (table_of n) (λ i. refl) (λ i hi d. refl)
        i (slot_in now.store.table i) (slot_in now.store.table i) u refl refl (λ i hi d. refl)
        (λ _. w.bits p hp ∙ ap (λ (b : Bool). one_if (off now.store.desk.masks.local p && not b)) (aw_at now p s here u ∙ sym x)) (λ _ g. x ∙ table_behind i u e) w

    -- any entry but the one of the look
    entries-hit : (i : ℕ) (u : Version) → At now.shelf i u → (i ≡ (card_of now.store p).place - T now.store → ⊥) → Is now (shelf_of now) i (slot_in now.store.shelf i) u → Is n (shelf_of n) i (slot_in now.store.shelf i) u
    entries-hit i u e d w =
        let x = aw_else q p s here v ever_v shelf_found.2 u (in_right u now.history.live now.history.left (at_needed q i u e).0) (elsewhere i u e d) in
        is_still now n p (other q p s here 1 (reads v ∷ [])) refl (shelf_of now) (shelf_of n) (λ i. refl) (λ i hi d. refl)
        i (slot_in now.store.shelf i) (slot_in now.store.shelf i) u refl refl (λ i hi d. refl) (λ _. w.bits p hp ∙ ap (λ (b : Bool). one_if (not b)) (aw_at now p s here u ∙ sym x))
        (λ _ g. x ∙ behind q p s here faces i u e (rw (place_at n p _ (own q p s here 1 (reads v ∷ []))) at g) d) w

    abbrev mask : ℕ
    mask = REMSET_MASK_UPD (scan_mask p) (slot_in now.store.shelf k).mask

    -- the entry of the look, with its new mask
    entry-hit : Is n (shelf_of n) ((card_of now.store p).place - T now.store) (slot (slot_in now.store.shelf k).number (slot_in now.store.shelf k).body mask) shelf_found.0
    entry-hit =
        let x = aw_gone q p s here v ever_v shelf_found.2 in
        is_still now n p (other q p s here 1 (reads v ∷ [])) refl (shelf_of now) (shelf_of n) (λ i. refl) (λ i hi d. refl)
        k (slot_in now.store.shelf k) (slot (slot_in now.store.shelf k).number (slot_in now.store.shelf k).body mask) v refl refl (λ i hi d. set_else (slot_in now.store.shelf k).mask p i d)
        (λ _. set-bit (slot_in now.store.shelf k).mask p ∙ sym (ap (λ (b : Bool). one_if (not b)) x)) (λ _ g. x) (entry_of q k v shelf_found.1)

    mask_small : mask < 2 ^ 64
    mask_small = set_small (slot_in now.store.shelf k).mask p hp (q.fine.sized.shelf k).mask

    -- it is freed exactly where nobody awaits the version any more
    freed_is : (x : Bool) → all_ones 64 mask ≡ x → OK n (shelf_of n) ((card_of now.store p).place - T now.store) (freed_if x (slot_in now.store.shelf k) mask) (keep (awaited n.history) (some shelf_found.0))
    freed_is true e = go (awaited n.history v) refl
      where
        go : (b : Bool) → awaited n.history v ≡ b → OK n (shelf_of n) ((card_of now.store p).place - T now.store) free (cond (awaited n.history v) (some v) none)
        go true a = let w = awaited_on q p s here 1 (reads v ∷ []) v a in absurd (false≢true (sym (ones_none mask (λ i. aw n i v) mask_small entry-hit.bits e w.0 w.1) ∙ w.2))
        go false a = rw a refl
    freed_is false e =
        let w = some-zero mask (λ i. aw n i v) mask_small entry-hit.bits e in
        let a : awaited n.history v ≡ true = on_awaited q p s here 1 (reads v ∷ []) v w.0 w.2 in
        rw a entry-hit

    pub shelf-hit-keeps : Inv n
    unfolding shelf_look
    shelf-hit-keeps =
        look-hands q p s here v ever_v shelf_found.2 now.store.desk.masks now.store.table n.store.shelf
        (shelf_fine now.store q.fine p hp (busy q p s here) true k past-table before_end) refl (shelf_kept true now.store p k).entries
        (marked_map now n (table_of now) (table_of n) now.store.table now.table slots-hit q.table_marks) (λ i. entries i (ℕ_discrete i k))
      where
        rest : (i : ℕ) → (i ≡ (card_of now.store p).place - T now.store → ⊥) → (o : Option Version) → get_or now.shelf i none ≡ o → OK now (shelf_of now) i (slot_in now.store.shelf i) o
            → OK n (shelf_of n) i (slot_in now.store.shelf i) (keep (awaited n.history) o)
        rest i d none e w = w
        rest i d (some u) e w =
            let m = at_needed q i u e in
            let a = awaited_else q p s here v ever_v shelf_found.2 u (in_right u now.history.live now.history.left m.0) (elsewhere i u e d) ∙ m.1 in
            rw a (entries-hit i u e d w)

        entries : (i : ℕ) → Dec (i ≡ (card_of now.store p).place - T now.store) → OK n (shelf_of n) i (slot_in n.store.shelf i) (get_or (map (keep (awaited n.history)) now.shelf) i none)
        entries i (yes z) =
            rw (z, get_or-set_same now.store.shelf k (taken (slot_in now.store.shelf k) p) free in_shelf)
            (subst (OK n (shelf_of n) k (taken (slot_in now.store.shelf k) p)) (sym (get_or-keep (awaited n.history) now.shelf k ∙ ap (keep (awaited n.history)) shelf_found.1)) (freed_is (all_ones 64 mask) refl))
        entries i (no z) =
            rw (get_or-set_other now.store.shelf k i (taken (slot_in now.store.shelf k) p) free z)
            (subst (OK n (shelf_of n) i (slot_in now.store.shelf i)) (sym (get_or-keep (awaited n.history) now.shelf i)) (rest i z (get_or now.shelf i none) refl (q.shelf_marks i)))
