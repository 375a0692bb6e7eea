-- A test that holds of each number of a range.
use Rattle.std.specs.Prelude.{Bool, true, ◌&&◌, ℕ, zero, suc}

-- each of the n numbers from i on passes
unfoldable pub every : (ℕ → Bool) → ℕ → ℕ → Bool
every p i zero = true
every p i (suc n) = p i && every p (suc i) n
