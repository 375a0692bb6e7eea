-- The store of document 01 but for one of the "Errors that look right": "Clearing all status bits at begin instead of turning the stable
-- bit."
use Rattle.std.specs.Prelude.{Bool, true, false, map, ℕ}
use Rattle.demands.specs.Machine.{Machine}
use Rattle.rules.specs.Calls.{in_use, free_position}
use Rattle.rules.specs.Masks.{Masks, masks, scan_mask, cleared, LCL_ACTIVE_MASK_UPD}
use Rattle.rules.specs.Memory.{Slot, slot, Store, store}
use Rattle.rules.specs.Refusals.{refusals, changes_to}
use Rattle.wrong.specs.Ways.{Ways, ways, begun, itself, called_by}

-- the slot with the bit of position p cleared, if it is in use
abbrev pub cleared_if : Bool → Slot → ℕ → Slot
cleared_if true s p = slot s.number s.body (cleared s.mask p)
cleared_if false s p = s

abbrev pub cleared_slot : ℕ → Slot → Slot
cleared_slot p s = cleared_if (in_use s) s p

-- the new scan's status bit of every record is cleared
unfoldable pub cleared_all : Store → ℕ → Store
cleared_all S p = store S.desk (map (cleared_slot p) S.table) S.shelf

-- the table walk ends, and the stable bit does not turn
unfoldable pub walk_over : Masks → ℕ → Masks
walk_over m p = masks m.stable m.active (LCL_ACTIVE_MASK_UPD m.local (scan_mask p))

abbrev pub clearing : Ways
clearing = ways refusals changes_to (λ S. cleared_all (begun S) (free_position S)) itself walk_over

abbrev pub clear_at_begin : Machine
clear_at_begin = called_by clearing
