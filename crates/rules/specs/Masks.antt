-- Masks, and the operations of document 000, Table I, for full scans, at any width.
use Rattle.std.specs.Prelude.{Bool, ℕ, ◌-◌, ◌/◌, ◌%◌, ◌^◌, eqb}
use Rattle.std.specs.Int.Bits.{bit_and, bit_or, bit_xor}

-- "Bit i of a mask is position i."
unfoldable pub bit : ℕ → ℕ → ℕ
bit x i = x / 2 ^ i % 2

-- is the bit of a position 1; is it 0
abbrev pub on : ℕ → ℕ → Bool
on x i = eqb (bit x i) 1

abbrev pub off : ℕ → ℕ → Bool
off x i = eqb (bit x i) 0

-- all ones, and NOT, of w bits
abbrev pub ones : ℕ → ℕ
ones w = 2 ^ w - 1

unfoldable pub NOT : ℕ → ℕ → ℕ
NOT w x = ones w - x

abbrev pub all_ones : ℕ → ℕ → Bool
all_ones w x = eqb x (ones w)

-- the bits from n up
unfoldable pub from : ℕ → ℕ → ℕ
from n x = x / 2 ^ n

-- the scan mask of a position: its bit and no other
unfoldable pub scan_mask : ℕ → ℕ
scan_mask p = 2 ^ p

-- ---- Table I, by its names

unfoldable pub REMSET_MASK_INS : (stable status local_active : ℕ) → ℕ
REMSET_MASK_INS stable status local_active = bit_or (bit_xor stable status) local_active

unfoldable pub REMSET_MASK_UPD : (scan remset_status : ℕ) → ℕ
REMSET_MASK_UPD scan remset_status = bit_or scan remset_status

unfoldable pub LCL_ACTIVE_MASK_UPD : (local_active scan : ℕ) → ℕ
LCL_ACTIVE_MASK_UPD local_active scan = bit_or local_active scan

unfoldable pub ACTIVE_MASK_UPD : (active scan : ℕ) → ℕ
ACTIVE_MASK_UPD active scan = bit_or active scan

unfoldable pub STATUS_MASK_UPD : (w stable local_active : ℕ) → ℕ
STATUS_MASK_UPD w stable local_active = NOT w (bit_xor stable local_active)

unfoldable pub STATUS_MASK_SCAN_UPD : (status scan : ℕ) → ℕ
STATUS_MASK_SCAN_UPD status scan = bit_xor status scan

unfoldable pub SCAN_TABLE_READ : (stable status scan : ℕ) → ℕ
SCAN_TABLE_READ stable status scan = bit_and (bit_xor stable status) scan

unfoldable pub STABLE_FLIP : (stable scan : ℕ) → ℕ
STABLE_FLIP stable scan = bit_xor stable scan

unfoldable pub SCAN_REMSET_READ : (scan remset_status : ℕ) → ℕ
SCAN_REMSET_READ scan remset_status = bit_and scan remset_status

-- ---- the three masks of the desk, of 64 bits

pub record Masks : Type 0 where
  pub stable : ℕ
  pub active : ℕ
  pub local : ℕ

abbrev pub masks : ℕ → ℕ → ℕ → Masks
masks s a l = record { stable = s; active = a; local = l }

-- the mask with a position's bit cleared
unfoldable pub cleared : ℕ → ℕ → ℕ
cleared x p = bit_and x (NOT 64 (scan_mask p))

-- "a fresh desk (both active masks all ones, everything else zero ..)"
abbrev pub fresh : Masks
fresh = masks 0 (ones 64) (ones 64)

-- "Begin: .. clears it in both active masks"
unfoldable pub walk_begun : Masks → ℕ → Masks
walk_begun m p = masks m.stable (cleared m.active p) (cleared m.local p)

-- "the table walk ends: the scan's stable bit flips and its local active bit becomes 1. Its active bit stays 0."
unfoldable pub walk_ended : Masks → ℕ → Masks
walk_ended m p = masks (STABLE_FLIP m.stable (scan_mask p)) m.active (LCL_ACTIVE_MASK_UPD m.local (scan_mask p))

-- "finished. The active bit becomes 1"
unfoldable pub ended : Masks → ℕ → Masks
ended m p = masks m.stable (ACTIVE_MASK_UPD m.active (scan_mask p)) m.local

-- "status mask = NOT (stable XOR local active)"
unfoldable pub new_status : Masks → ℕ
new_status m = STATUS_MASK_UPD 64 m.stable m.local

-- "Let m = (stable XOR status) OR local active."
unfoldable pub m_of : Masks → ℕ → ℕ
m_of m status = REMSET_MASK_INS m.stable status m.local
