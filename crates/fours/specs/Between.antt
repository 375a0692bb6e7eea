-- Numbers from one on, below another, of which a search is told what holds.
use Rattle.std.specs.Prelude.{◌≡◌, ℕ, ◌≤◌, ◌<◌, Option, MatchOption}

-- it holds of each of them
abbrev pub Between : (ℕ → Type 0) → ℕ → ℕ → Type 0
Between P from to = (j : ℕ) → from ≤ j → j < to → P j

-- the lowest that is hit, with a miss at each below it, or none, with a miss at each
abbrev pub Lowest : (ℕ → Type 0) → (ℕ → Type 0) → ℕ → ℕ → Option ℕ → Type 0
Lowest miss hit from to r = MatchOption r (Between miss from to) (λ i. (from ≤ i) × (i < to) × hit i × Between miss from i)

-- number x is found, or nothing, where x is the end; `number` reads what was found
abbrev pub Finds : {A : Type 0} → (A → ℕ) → Option A → ℕ → ℕ → Type 0
Finds number r x end = MatchOption r (x ≡ end) (λ a. (number a ≡ x) × (x < end))
