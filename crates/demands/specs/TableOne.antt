-- How the masks move with one call, by the names of document 000, Table I: what stood in the masks before the call and after it.
use Rattle.std.specs.Prelude.{◌≡◌, true, false, List, ◌∷◌, ℕ, ◌<◌, eqb}
use Rattle.std.proofs.Math.Option.{some}
use Rattle.demands.specs.History.{Version}
use Rattle.rules.specs.Passed.{All}
use Rattle.demands.specs.Lives.{Opening, Accepted, past}
use Rattle.demands.specs.Machine.{Machine, Within}
use Rattle.demands.specs.Masks.{none_runs, masks_after, status_after, remset_after, walking, waits, in_slot, in_entry}
use Rattle.demands.specs.Placement.{Placing, stands_at}
use Rattle.rules.specs.Masks.{scan_mask, REMSET_MASK_INS, REMSET_MASK_UPD, LCL_ACTIVE_MASK_UPD, ACTIVE_MASK_UPD, STATUS_MASK_UPD, STATUS_MASK_SCAN_UPD, SCAN_TABLE_READ, STABLE_FLIP, SCAN_REMSET_READ}
use Rattle.rules.specs.Refusals.{Call}

-- call c, after the calls cs
pub record Moved (M : Machine) (P : Placing) (o : Opening) (cs : List Call) (c : Call) : Type 0 where
  -- a version leaves slot j for entry e, with m as its mask
  pub remset_mask_ins : (j e : ℕ) (v : Version) → in_slot M o P cs j ≡ some v → in_entry M o P (c ∷ cs) e ≡ some v
      → remset_after M o (c ∷ cs) e ≡ REMSET_MASK_INS (masks_after M o cs).stable (status_after M o cs j) (masks_after M o cs).local
  -- the version in entry e is handed out to the scan at i, and awaited by another
  pub remset_mask_upd : (i e : ℕ) (v : Version) → i < 64 → in_entry M o P cs e ≡ some v → in_entry M o P (c ∷ cs) e ≡ some v → waits M o P cs i v ≡ true
      → waits M o P (c ∷ cs) i v ≡ false
      → remset_after M o (c ∷ cs) e ≡ REMSET_MASK_UPD (scan_mask i) (remset_after M o cs e)
  -- the table walk ends at position i
  pub lcl_active_mask_upd : (i : ℕ) → i < 64 → walking M o P cs i ≡ true → walking M o P (c ∷ cs) i ≡ false
      → (masks_after M o (c ∷ cs)).local ≡ LCL_ACTIVE_MASK_UPD (masks_after M o cs).local (scan_mask i)
  pub stable_flip : (i : ℕ) → i < 64 → walking M o P cs i ≡ true → walking M o P (c ∷ cs) i ≡ false
      → (masks_after M o (c ∷ cs)).stable ≡ STABLE_FLIP (masks_after M o cs).stable (scan_mask i)
  -- the scan at i finishes
  pub active_mask_upd : (i : ℕ) → i < 64 → none_runs (stands_at M P o cs i) ≡ false → none_runs (stands_at M P o (c ∷ cs) i) ≡ true
      → (masks_after M o (c ∷ cs)).active ≡ ACTIVE_MASK_UPD (masks_after M o cs).active (scan_mask i)
  -- slot j has the version that the call has made
  pub status_mask_upd : (j : ℕ) (v : Version) → in_slot M o P (c ∷ cs) j ≡ some v → v.change ≡ (past M o cs).changes
      → status_after M o (c ∷ cs) j ≡ STATUS_MASK_UPD 64 (masks_after M o cs).stable (masks_after M o cs).local
  -- the version in slot j is handed out to the scan at i
  pub status_mask_scan_upd : (i j : ℕ) (v : Version) → i < 64 → in_slot M o P cs j ≡ some v → in_slot M o P (c ∷ cs) j ≡ some v
      → waits M o P cs i v ≡ true → waits M o P (c ∷ cs) i v ≡ false
      → status_after M o (c ∷ cs) j ≡ STATUS_MASK_SCAN_UPD (status_after M o cs j) (scan_mask i)

-- the scan at i reads slot j, entry e: 0 exactly where it awaits what stands there
pub record ReadBy (M : Machine) (P : Placing) (o : Opening) (cs : List Call) : Type 0 where
  pub scan_table_read : (i j : ℕ) (v : Version) → i < 64 → in_slot M o P cs j ≡ some v → walking M o P cs i ≡ true
      → eqb (SCAN_TABLE_READ (masks_after M o cs).stable (status_after M o cs j) (scan_mask i)) 0 ≡ waits M o P cs i v
  pub scan_remset_read : (i e : ℕ) (v : Version) → i < 64 → in_entry M o P cs e ≡ some v
      → eqb (SCAN_REMSET_READ (scan_mask i) (remset_after M o cs e)) 0 ≡ waits M o P cs i v

-- of every life
pub record TableOne (M : Machine) (P : Placing) : Type 0 where
  pub reads : (o : Opening) → Accepted M o → (cs : List Call) → All Within cs → ReadBy M P o cs
  pub moves : (o : Opening) → Accepted M o → (cs : List Call) (c : Call) → All Within (c ∷ cs) → Moved M P o cs c
