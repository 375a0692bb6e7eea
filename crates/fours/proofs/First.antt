-- What a search finds is the first number that passes p, where a miss says that p fails, and a hit that it passes.
use mathlib.Core.Path.{◌≡◌, sym, ap, ◌∙◌}
use mathlib.Core.Bool.{Bool, true, false}
use Prim.Native.Nat.{ℕ, ◌+◌, ◌-◌, ◌≤◌, ◌<◌}
use native.Mathlib.Omega.{arith}
use Rattle.std.specs.Prelude.{Option, Some, None, MatchOption}
use Rattle.std.specs.Option.{unwrap_or}
use Rattle.rules.specs.Calls.{first}
use Rattle.rules.proofs.First.{first-hit, first_end, first_past}
use Rattle.fours.specs.Between.{Between, Lowest}

module _ (p : ℕ → Bool) where
  -- what is known of a number says what p says of it
  abbrev pub Says : (ℕ → Type 0) → Bool → Type 0
  Says P b = (j : ℕ) → P j → p j ≡ b

  -- past numbers that are misses
  pub first_on : (miss : ℕ → Type 0) (from i end : ℕ) → Between miss from i → Says miss false → from ≤ i → i ≤ end → first p from (end - from) ≡ first p i (end - i)
  first_on miss from i end m f lo hi = first_past p from i end lo hi (λ j a b. f j (m j a b))

  -- all are misses
  first_none : (miss : ℕ → Type 0) (from n end : ℕ) → Between miss from end → Says miss false → from + n ≡ end → first p from n ≡ end
  first_none miss from n end m f h =
      let left : n ≡ end - from = omega (arith, h) in
      ap (first p from) left ∙ first_on miss from end end m f (omega (arith, h)) (omega arith) ∙ first_end p end end (omega arith)

  module _ (miss hit : ℕ → Type 0) (from n end : ℕ) where
    -- a hit, and misses below it
    first_some : (i : ℕ) → (from ≤ i) × (i < end) × hit i × Between miss from i → Says miss false → Says hit true → from + n ≡ end → i ≡ first p from n
    first_some i (lo, hi, e, m) f t h =
        let left : n ≡ end - from = omega (arith, h) in
        sym (ap (first p from) left ∙ first_on miss from i end m f lo (omega arith) ∙ first-hit p i end hi (t i e))

    -- the lowest hit, or the end
    pub first_or_end : (r : Option ℕ) → Lowest miss hit from end r → Says miss false → Says hit true → from + n ≡ end → unwrap_or r end ≡ first p from n
    first_or_end None m f t h = sym (first_none miss from n end m f h)
    first_or_end (Some i) m f t h = first_some i m f t h

    -- the same by cases
    pub first_by_cases : (r : Option ℕ) → Lowest miss hit from end r → Says miss false → Says hit true → from + n ≡ end → MatchOption r (first p from n ≡ end) (λ i. (i ≡ first p from n) × (i < end))
    first_by_cases None m f t h = first_none miss from n end m f h
    first_by_cases (Some i) m f t h = (first_some i m f t h, m.1)
