-- How far a search has come.
use Rattle.std.specs.Prelude.{◌≡◌, Bool, false, ◌||◌, List, ℕ, ◌≤◌, ◌<◌, Option}
use Rattle.rules.specs.declared.SlotNumber.{SlotNumber}
use Rattle.rules.specs.Calls.{slot_in, in_use}
use Rattle.rules.specs.Memory.{Slot}
use Rattle.fours.specs.Between.{Finds as FindsBy}
use Rattle.joins.specs.Search.{bears}

-- slot i bears one of two numbers
abbrev pub bears_either : List Slot → ℕ → ℕ → ℕ → Bool
bears_either l k m i = bears l k i || bears l m i

-- slot i is in use
abbrev pub used_at : List Slot → ℕ → Bool
used_at l i = in_use (slot_in l i)

-- a search from one number on, up to an end, has come to r: none before r passes
abbrev pub Passed : (ℕ → Bool) → ℕ → ℕ → ℕ → Type 0
Passed p from end r = (from ≤ r) × (r ≤ end) × ((j : ℕ) → from ≤ j → j < r → p j ≡ false)

-- slot x is found, or none, where x is the end
abbrev pub Finds : Option SlotNumber → ℕ → ℕ → Type 0
Finds = FindsBy (λ i. i.0)
