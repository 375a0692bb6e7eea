-- What the masks mean before and after a call makes them move as Table I has it, of any machine.
use mathlib.Core.Path.{◌≡◌, refl, sym, ap, ◌∙◌}
use mathlib.Core.Bool.{Bool, true, false, not, ◌&&◌, false≢true}
use mathlib.Core.Option.{Option, some}
use mathlib.Core.List.{List, ◌∷◌}
use Prim.Native.Nat.{ℕ, ◌+◌, ◌-◌, ◌%◌, ◌<◌, max}
use native.Mathlib.Omega.{arith}
use native.Mathlib.Decide.{ℕ_discrete}
use lib.Bits.{bit_or, bit_xor, or_lt, xor_lt}
use borrow.Author.Tests.{eq-eqb}
use Rattle.demands.specs.History.{Version, Scan}
use Rattle.demands.specs.Lives.{Opening, table_slots, bytes_after}
use Rattle.demands.specs.Machine.{Machine}
use Rattle.demands.specs.Masks.{one_if, none_runs, walks, waits_for, masks_after, status_after, remset_after, walking, waits, walks_ended, in_slot, in_entry, MasksMean}
use Rattle.demands.specs.Placement.{Placing, stands_at}
use Rattle.demands.specs.TableOne.{ReadBy}
use Rattle.rules.specs.Masks.{bit, off, scan_mask, REMSET_MASK_INS, REMSET_MASK_UPD, LCL_ACTIVE_MASK_UPD, ACTIVE_MASK_UPD, STATUS_MASK_UPD, STATUS_MASK_SCAN_UPD, STABLE_FLIP}
use Rattle.rules.specs.Memory.{read}
use Rattle.rules.specs.Refusals.{Call}
use Rattle.rules.proofs.Bits.{bit_low, bit-or, bit-xor, bit_not, bit_ext, not_small, scan_own, scan_other, scan_small}
use Rattle.rules.proofs.TableOne.{flip_own, flip_other, set_own, set_other, table-read, remset-read}
use Rattle.stores.proofs.Sizes.{Sized}

-- ---- what a scan reads

module _ (M : Machine) (P : Placing) (o : Opening) (cs : List Call) (b : MasksMean M o P cs) where
  off-one : (x i : ℕ) (w : Bool) → bit x i ≡ one_if (not w) → off x i ≡ w
  off-one x i true e = eq-eqb _ _ e
  off-one x i false e = rw e refl

  pub read_by : ReadBy M P o cs
  read_by =
      record {
        scan_table_read = λ i j v hi e w. table-read (masks_after M o cs).stable (status_after M o cs j) i
            ∙ off-one (bit_xor (masks_after M o cs).stable (status_after M o cs j)) i (waits M o P cs i v) (b.status j v e i hi ∙ ap (λ (x : Bool). one_if (x && not (waits M o P cs i v))) w);
        scan_remset_read = λ i k v hi e. remset-read (remset_after M o cs k) i ∙ off-one (remset_after M o cs k) i (waits M o P cs i v) (b.remset k v e i hi);
      }

-- ---- how a call moves the masks

module _ (M : Machine) (P : Placing) (o : Opening) (cs : List Call) (c : Call) (b : MasksMean M o P cs) (a : MasksMean M o P (c ∷ cs)) (zb : Sized (read (bytes_after M o cs))) (za : Sized (read (bytes_after M o (c ∷ cs)))) where
  abbrev before : ℕ → Option Scan
  before i = stands_at M P o cs i

  abbrev after : ℕ → Option Scan
  after i = stands_at M P o (c ∷ cs) i

  -- stable and local active
  abbrev st : ℕ
  st = (masks_after M o cs).stable

  abbrev st' : ℕ
  st' = (masks_after M o (c ∷ cs)).stable

  abbrev lo : ℕ
  lo = (masks_after M o cs).local

  -- where a scan has not moved its bits have not
  module _ (i : ℕ) (hi : i < 64) (same : after i ≡ before i) where
    walking-same : walking M o P (c ∷ cs) i ≡ walking M o P cs i
    walking-same = ap (walks (table_slots o)) same

    waits-same : (v : Version) → waits M o P (c ∷ cs) i v ≡ waits M o P cs i v
    waits-same v = ap (λ (s : Option Scan). waits_for s v) same

    stable-same : bit (masks_after M o (c ∷ cs)).stable i ≡ bit (masks_after M o cs).stable i
    unfolding walks_ended
    stable-same = a.stable i hi ∙ rw walking-same (go (walking M o P cs i)) ∙ sym (b.stable i hi)
      where
        go : (x : Bool) → (walks_ended M o P cs i + one_if (x && not x)) % 2 ≡ walks_ended M o P cs i % 2
        go true = omega arith
        go false = omega arith

  -- a call moves the scan of one position at most
  module _ (mover : ℕ) (others : (i : ℕ) → (i ≡ mover → ⊥) → after i ≡ before i) where
    -- if that at i has moved no other has
    only : (i : ℕ) → (after i ≡ before i → ⊥) → (j : ℕ) → (j ≡ i → ⊥) → after j ≡ before j
    only i moved j d = go (ℕ_discrete i mover)
      where
        go : Dec (i ≡ mover) → after j ≡ before j
        go (yes z) = others j (λ y. d (y ∙ sym z))
        go (no z) = absurd (moved (others i z))

    module _ (i : ℕ) (hi : i < 64) (was : walking M o P cs i ≡ true) (ends : walking M o P (c ∷ cs) i ≡ false) where
      moved : after i ≡ before i → ⊥
      moved e = false≢true (sym ends ∙ ap (walks (table_slots o)) e ∙ was)

      pub local-moves : (masks_after M o (c ∷ cs)).local ≡ LCL_ACTIVE_MASK_UPD (masks_after M o cs).local (scan_mask i)
      unfolding LCL_ACTIVE_MASK_UPD
      local-moves = bit_ext 64 _ _ za.desk.local (or_lt 64 _ _ zb.desk.local (scan_small 64 i hi)) (λ j hj. go j hj (ℕ_discrete j i))
        where
          go : (j : ℕ) → j < 64 → Dec (j ≡ i) → bit (masks_after M o (c ∷ cs)).local j ≡ bit (bit_or (masks_after M o cs).local (scan_mask i)) j
          go j hj (yes z) = rw z (a.local i hi ∙ rw ends (sym (set_own (masks_after M o cs).local i)))
          go j hj (no z) = a.local j hj ∙ ap (λ (x : Bool). one_if (not x)) (walking-same j hj (only i moved j z)) ∙ sym (b.local j hj) ∙ sym (set_other (masks_after M o cs).local i j z)

      pub stable-moves : (masks_after M o (c ∷ cs)).stable ≡ STABLE_FLIP (masks_after M o cs).stable (scan_mask i)
      unfolding STABLE_FLIP walks_ended
      stable-moves = bit_ext 64 _ _ za.desk.stable (xor_lt 64 _ _ zb.desk.stable (scan_small 64 i hi)) (λ j hj. go j hj (ℕ_discrete j i))
        where
          go : (j : ℕ) → j < 64 → Dec (j ≡ i) → bit (masks_after M o (c ∷ cs)).stable j ≡ bit (bit_xor (masks_after M o cs).stable (scan_mask i)) j
          go j hj (yes z) = rw z (a.stable i hi ∙ rw (was, ends, flip_own (masks_after M o cs).stable i) (omega (arith, b.stable i hi)))
          go j hj (no z) = stable-same j hj (only i moved j z) ∙ sym (flip_other (masks_after M o cs).stable i j z)

    pub active-moves : (i : ℕ) → i < 64 → none_runs (before i) ≡ false → none_runs (after i) ≡ true → (masks_after M o (c ∷ cs)).active ≡ ACTIVE_MASK_UPD (masks_after M o cs).active (scan_mask i)
    unfolding ACTIVE_MASK_UPD
    active-moves i hi was ends = bit_ext 64 _ _ za.desk.active (or_lt 64 _ _ zb.desk.active (scan_small 64 i hi)) (λ j hj. go j hj (ℕ_discrete j i))
      where
        gone : after i ≡ before i → ⊥
        gone e = false≢true (sym was ∙ sym (ap none_runs e) ∙ ends)

        go : (j : ℕ) → j < 64 → Dec (j ≡ i) → bit (masks_after M o (c ∷ cs)).active j ≡ bit (bit_or (masks_after M o cs).active (scan_mask i)) j
        go j hj (yes z) = rw z (a.active i hi ∙ rw ends (sym (set_own (masks_after M o cs).active i)))
        go j hj (no z) = a.active j hj ∙ ap (λ (s : Option Scan). one_if (none_runs s)) (only i gone j z) ∙ sym (b.active j hj) ∙ sym (set_other (masks_after M o cs).active i j z)

    -- ---- a version handed out to the scan at i

    module _ (i : ℕ) (hi : i < 64) (v : Version) (was : waits M o P cs i v ≡ true) (not_now : waits M o P (c ∷ cs) i v ≡ false) where
      went_on : after i ≡ before i → ⊥
      went_on e = false≢true (sym not_now ∙ ap (λ (s : Option Scan). waits_for s v) e ∙ was)

      pub remset-moves : (k : ℕ) → in_entry M o P cs k ≡ some v → in_entry M o P (c ∷ cs) k ≡ some v → remset_after M o (c ∷ cs) k ≡ REMSET_MASK_UPD (scan_mask i) (remset_after M o cs k)
      unfolding REMSET_MASK_UPD
      remset-moves k e f = bit_ext 64 _ _ (za.shelf k).mask (or_lt 64 _ _ (scan_small 64 i hi) (zb.shelf k).mask) (λ j hj. bits j hj (ℕ_discrete j i) ∙ sym (bit-or (scan_mask i) (remset_after M o cs k) j))
        where
          bits : (j : ℕ) → j < 64 → Dec (j ≡ i) → bit (remset_after M o (c ∷ cs) k) j ≡ max (bit (scan_mask i) j) (bit (remset_after M o cs k) j)
          bits j hj (yes z) = rw z (a.remset k v f i hi ∙ rw (not_now, scan_own i) (omega (arith, bit_low (remset_after M o cs k) i)))
          bits j hj (no z) =
              let y : bit (remset_after M o (c ∷ cs) k) j ≡ bit (remset_after M o cs k) j = a.remset k v f j hj ∙ ap (λ (x : Bool). one_if (not x)) (waits-same j hj (only i went_on j z) v) ∙ sym (b.remset k v e j hj) in
              omega (arith, scan_other i j z)

      pub status-moves : (j : ℕ) → in_slot M o P cs j ≡ some v → in_slot M o P (c ∷ cs) j ≡ some v → walking M o P cs i ≡ true → status_after M o (c ∷ cs) j ≡ STATUS_MASK_SCAN_UPD (status_after M o cs j) (scan_mask i)
      unfolding STATUS_MASK_SCAN_UPD walks_ended
      status-moves j e f wk = bit_ext 64 _ _ (za.table j).mask (xor_lt 64 _ _ (zb.table j).mask (scan_small 64 i hi)) (λ k hk. bits k hk (ℕ_discrete k i))
        where
          old : (k : ℕ) → k < 64 → (bit st k + bit (status_after M o cs j) k) % 2 ≡ one_if (walking M o P cs k && not (waits M o P cs k v))
          old k hk = sym (bit-xor st (status_after M o cs j) k) ∙ b.status j v e k hk

          new : (k : ℕ) → k < 64 → (bit st' k + bit (status_after M o (c ∷ cs) j) k) % 2 ≡ one_if (walking M o P (c ∷ cs) k && not (waits M o P (c ∷ cs) k v))
          new k hk = sym (bit-xor st' (status_after M o (c ∷ cs) j) k) ∙ a.status j v f k hk

          own : (x : Bool) → walking M o P (c ∷ cs) i ≡ x → bit (status_after M o (c ∷ cs) j) i ≡ 1 - bit (status_after M o cs j) i
          own x q =
              let u : (bit st i + bit (status_after M o cs j) i) % 2 ≡ 0 = old i hi ∙ rw (wk, was) refl in
              let w : (bit st' i + bit (status_after M o (c ∷ cs) j) i) % 2 ≡ one_if x = new i hi ∙ rw (q, not_now) (ends x) in
              let y : bit st' i ≡ (walks_ended M o P cs i + one_if (not x)) % 2 = a.stable i hi ∙ rw (wk, q) refl in
              sum x u w y
            where
              ends : (x : Bool) → one_if (x && true) ≡ one_if x
              ends true = refl
              ends false = refl

              sum : (x : Bool) → (bit st i + bit (status_after M o cs j) i) % 2 ≡ 0 → (bit st' i + bit (status_after M o (c ∷ cs) j) i) % 2 ≡ one_if x → bit st' i ≡ (walks_ended M o P cs i + one_if (not x)) % 2
                  → bit (status_after M o (c ∷ cs) j) i ≡ 1 - bit (status_after M o cs j) i
              sum true u w y = omega (arith, bit_low (status_after M o cs j) i, bit_low (status_after M o (c ∷ cs) j) i, b.stable i hi)
              sum false u w y = omega (arith, bit_low (status_after M o cs j) i, bit_low (status_after M o (c ∷ cs) j) i, b.stable i hi)

          bits : (k : ℕ) → k < 64 → Dec (k ≡ i) → bit (status_after M o (c ∷ cs) j) k ≡ bit (bit_xor (status_after M o cs j) (scan_mask i)) k
          bits k hk (yes z) = rw (z, flip_own (status_after M o cs j) i) (own (walking M o P (c ∷ cs) i) refl)
          bits k hk (no z) =
              let s = only i went_on k z in
              let y : one_if (walking M o P (c ∷ cs) k && not (waits M o P (c ∷ cs) k v)) ≡ one_if (walking M o P cs k && not (waits M o P cs k v)) = rw (walking-same k hk s, waits-same k hk s v) refl in
              rw (flip_other (status_after M o cs j) i k z) (omega (arith, bit_low (status_after M o cs j) k, bit_low (status_after M o (c ∷ cs) j) k, stable-same k hk s, old k hk, new k hk))

  -- ---- a change: no scan moves

  module _ (calm : (i : ℕ) → after i ≡ before i) where
    -- the version of slot j, awaited by no scan past its table walk, is shelved in entry k
    pub shelved_with : (j k : ℕ) (v : Version) → in_slot M o P cs j ≡ some v → in_entry M o P (c ∷ cs) k ≡ some v → ((i : ℕ) → i < 64 → walking M o P cs i ≡ false → waits M o P cs i v ≡ false)
        → remset_after M o (c ∷ cs) k ≡ REMSET_MASK_INS (masks_after M o cs).stable (status_after M o cs j) (masks_after M o cs).local
    unfolding REMSET_MASK_INS
    shelved_with j k v e f beyond = bit_ext 64 _ _ (za.shelf k).mask (or_lt 64 _ _ (xor_lt 64 _ _ zb.desk.stable (zb.table j).mask) zb.desk.local) (λ i hi. bits i hi ∙ sym (bit-or _ (masks_after M o cs).local i))
      where
        bits : (i : ℕ) → i < 64 → bit (remset_after M o (c ∷ cs) k) i ≡ max (bit (bit_xor st (status_after M o cs j)) i) (bit lo i)
        bits i hi = a.remset k v f i hi ∙ ap (λ (w : Bool). one_if (not w)) (waits-same i hi (calm i) v) ∙ rw (b.status j v e i hi, b.local i hi) (go (walking M o P cs i) refl)
          where
            go : (w : Bool) → walking M o P cs i ≡ w → one_if (not (waits M o P cs i v)) ≡ max (one_if (w && not (waits M o P cs i v))) (one_if (not w))
            go true q = most (waits M o P cs i v)
              where
                most : (y : Bool) → one_if (not y) ≡ max (one_if (not y)) 0
                most true = refl
                most false = refl
            go false q = rw (beyond i hi q) refl

    -- slot j has a version that no scan awaits
    pub made_with : (j : ℕ) (v : Version) → in_slot M o P (c ∷ cs) j ≡ some v → ((i : ℕ) → i < 64 → waits M o P (c ∷ cs) i v ≡ false)
        → status_after M o (c ∷ cs) j ≡ STATUS_MASK_UPD 64 (masks_after M o cs).stable (masks_after M o cs).local
    unfolding STATUS_MASK_UPD
    made_with j v f none-waits = bit_ext 64 _ _ (za.table j).mask (not_small 64 _) (λ i hi. bits i hi ∙ sym (bit_not 64 (bit_xor st lo) i (xor_lt 64 _ _ zb.desk.stable zb.desk.local) hi ∙ ap (λ (y : ℕ). 1 - y) (bit-xor st lo i)))
      where
        bits : (i : ℕ) → i < 64 → bit (status_after M o (c ∷ cs) j) i ≡ 1 - (bit st i + bit lo i) % 2
        bits i hi = go (walking M o P cs i) (b.local i hi) (sym (bit-xor _ (status_after M o (c ∷ cs) j) i) ∙ a.status j v f i hi ∙ rw (none-waits i hi, walking-same i hi (calm i)) refl)
          where
            go : (w : Bool) → bit lo i ≡ one_if (not w) → (bit (masks_after M o (c ∷ cs)).stable i + bit (status_after M o (c ∷ cs) j) i) % 2 ≡ one_if (w && true) → bit (status_after M o (c ∷ cs) j) i ≡ 1 - (bit st i + bit lo i) % 2
            go true l n = omega (arith, stable-same i hi (calm i), bit_low st i, bit_low (status_after M o (c ∷ cs) j) i)
            go false l n = omega (arith, stable-same i hi (calm i), bit_low st i, bit_low (status_after M o (c ∷ cs) j) i)
