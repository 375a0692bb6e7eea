-- What a walk over places sees: the first that hits within the budget, the budget spent, or the end.
use Rattle.std.specs.Prelude.{Bool, true, false, ℕ, suc, ◌+◌, ◌-◌, ◌/◌, min, ltb, List, length}
use Rattle.rules.specs.Calls.{first, slot_in}
use Rattle.rules.specs.Memory.{Slot, slots_of}
use Rattle.joins.specs.Search.{waiting}
use Rattle.looks.specs.declared.walk.Seen.{Seen}
use Rattle.looks.specs.declared.walk.Walked.{Walked}

abbrev pub walked : Seen → ℕ → ℕ → Walked
walked s n b = record { seen = s; looks = n; left = b }

-- the place that hits, or the one that the budget reaches
abbrev pub stop_of : (ℕ → Bool) → ℕ → ℕ → ℕ → ℕ
stop_of hit from b end = first hit from (min (from + b) end - from)

-- was there a hit; does the budget fall short of the end
unfoldable pub walked_by : Bool → Bool → ℕ → ℕ → ℕ → ℕ → Walked
walked_by true x q from b end = walked Seen.Record (suc q - from) (b - (suc q - from))
walked_by false true q from b end = walked Seen.Spent b 0
walked_by false false q from b end = walked Seen.End (end - from) (b - (end - from))

abbrev pub walked_of : (ℕ → Bool) → ℕ → ℕ → ℕ → Walked
walked_of hit from b end = walked_by (ltb (stop_of hit from b end) (min (from + b) end)) (ltb (from + b) end) (stop_of hit from b end) from b end

-- does the version in slot i wait for the scan at p
abbrev pub waits_in : ℕ → ℕ → List Slot → ℕ → Bool
waits_in flip p l i = waiting flip p (slot_in l i)

-- "table first, then shelf": does a version at place q wait for the scan at p, by flat lists of slots
unfoldable pub hit_in_by : Bool → ℕ → ℕ → List Slot → List Slot → ℕ → Bool
hit_in_by true stable p tb sh q = waits_in stable p tb q
hit_in_by false stable p tb sh q = waits_in 0 p sh (q - length tb)

abbrev pub hit_in : ℕ → ℕ → List Slot → List Slot → ℕ → Bool
hit_in stable p tb sh q = hit_in_by (ltb q (length tb)) stable p tb sh q

-- the walk over a table and then a shelf, by their bytes
abbrev pub sought_of : ℕ → ℕ → List ℕ → List ℕ → ℕ → ℕ → Walked
sought_of stable p t s place b = walked_of (hit_in stable p (slots_of t) (slots_of s)) place b (length t / 64 + length s / 64)
