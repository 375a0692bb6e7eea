-- Where the version stands that peek shows.
use Rattle.std.specs.Prelude.{Bool, true, false, ℕ, ◌+◌, ◌-◌, ltb, Option, Some, None}
use Rattle.rules.specs.Memory.{Store, T, R}
use Rattle.joins.specs.Walks.{stop_at}
use Rattle.readings.specs.declared.peek.Found.{Found}

-- does a version wait at place q; does it stand in the table
unfoldable pub found_by : Bool → Bool → ℕ → ℕ → Option Found
found_by false x q t = None
found_by true true q t = Some (Found.InTable (record { 0 = q }))
found_by true false q t = Some (Found.OnShelf (record { 0 = q - t }))

-- the first place that next would hand out to the scan at p
abbrev pub found_at : Store → ℕ → Option Found
found_at S p = found_by (ltb (stop_at S p (T S + R S)) (T S + R S)) (ltb (stop_at S p (T S + R S)) (T S)) (stop_at S p (T S + R S)) (T S)
