-- What the code looks for in the slots of a table or the entries of a shelf.
use Rattle.std.specs.Prelude.{Bool, ◌&&◌, ◌||◌, List, ℕ, eqb}
use Rattle.std.specs.Int.Bits.{bit_xor}
use Rattle.rules.specs.Calls.{slot_in, in_use}
use Rattle.rules.specs.Masks.{off}
use Rattle.rules.specs.Memory.{Slot}

-- slot i bears the number
abbrev pub bears : List Slot → ℕ → ℕ → Bool
bears l k i = eqb (slot_in l i).number k

-- slot i bears the number or is empty
abbrev pub bears_or_empty : List Slot → ℕ → ℕ → Bool
bears_or_empty l k i = bears l k i || bears l 0 i

-- a version in use that the scan at p waits for: its bit of (flip XOR mask) is 0, where flip is the stable mask in the table and 0 on
-- the shelf
abbrev pub waiting : ℕ → ℕ → Slot → Bool
waiting flip p s = in_use s && off (bit_xor flip s.mask) p
