-- What a search over positions finds.
use Rattle.std.specs.Prelude.{ℕ, Option}
use Rattle.fours.specs.Between.{Finds as FindsBy}

-- position x is found, or none, where x is the end
abbrev pub Finds : Option ℕ → ℕ → ℕ → Type 0
Finds = FindsBy (λ p. p)
