-- Laws of a test that holds of each number of a range.
use mathlib.Core.Path.{◌≡◌, refl, sym, ap, ◌∙◌}
use mathlib.Core.Bool.{Bool, true, ◌&&◌, and-true, and_assoc}
use Prim.Native.Nat.{ℕ, zero, suc, ◌+◌, ◌*◌, ◌-◌, ◌≤◌, ◌<◌}
use native.Mathlib.Nat.{add-suc, add-zero, suc-add, zero-add}
use native.Mathlib.Numerals.{add-one}
use native.Mathlib.Omega.{arith}
use native.Mathlib.Decide.{ℕ_discrete}
use Rattle.joins.proofs.Bools.{and_left, and_right}
use Rattle.soundness.specs.Every.{every}

pub every_split : (p : ℕ → Bool) (i a b : ℕ) → every p i (a + b) ≡ every p i a && every p (i + a) b
unfolding every
every_split p i zero b = rw (zero-add b, add-zero i) refl
every_split p i (suc a) b =
    rw (suc-add a b, add-suc i a, ← suc-add i a) (ap (λ (x : Bool). p i && x) (every_split p (suc i) a b) ∙ sym (and_assoc (p i) (every p (suc i) a) (every p (suc i + a) b)))

pub every_more : (p : ℕ → Bool) (i n : ℕ) → every p i (n + 1) ≡ every p i n && p (i + n)
unfolding every
every_more p i n = every_split p i n 1 ∙ ap (λ (x : Bool). every p i n && x) (and-true (p (i + n)))

pub every_at : (p : ℕ → Bool) (i n : ℕ) → every p i n ≡ true → (k : ℕ) → i ≤ k → k < i + n → p k ≡ true
unfolding every
every_at p i zero e k a b = absurd (omega arith)
every_at p i (suc n) e k a b = go (every_at p (suc i) n (and_right (p i) (every p (suc i) n) e) k) (ℕ_discrete k i)
  where
    go : (suc i ≤ k → k < suc i + n → p k ≡ true) → Dec (k ≡ i) → p k ≡ true
    go f (yes q) = rw q (and_left (p i) (every p (suc i) n) e)
    go f (no q) = f (omega arith) (omega arith)

-- two tests that agree on the range
pub every-same : (p q : ℕ → Bool) (i n : ℕ) → ((k : ℕ) → i ≤ k → k < i + n → p k ≡ q k) → every p i n ≡ every q i n
unfolding every
every-same p q i zero f = refl
every-same p q i (suc n) f = rw (f i (omega arith) (omega arith), every-same p q (suc i) n (λ k a b. f k (omega arith) (omega arith))) refl

-- a test from b on, by the distance from b
pub every_shift : (p : ℕ → Bool) (b i n : ℕ) → every (λ k. p (b + k)) i n ≡ every p (b + i) n
unfolding every
every_shift p b i zero = refl
every_shift p b i (suc n) = rw (every_shift p b (suc i) n, add-suc b i) refl

-- the numbers two by two
pub every_pairs : (p : ℕ → Bool) (b i n : ℕ) → every (λ k. p (b + k * 2) && p (b + k * 2 + 1)) i n ≡ every p (b + i * 2) (n * 2)
unfolding every
every_pairs p b i zero = refl
every_pairs p b i (suc n) =
    let u : suc n * 2 ≡ suc (suc (n * 2)) = omega arith in
    let v : b + suc i * 2 ≡ suc (suc (b + i * 2)) = omega arith in
    rw (u, every_pairs p b (suc i) n, v, add-one (b + i * 2)) (and_assoc (p (b + i * 2)) (p (suc (b + i * 2))) (every p (suc (suc (b + i * 2))) (n * 2)))

-- a loop from k that has come to i; at first it has seen none
pub every_none : (p : ℕ → Bool) (k n : ℕ) → n ≡ 0 → every p k n ≡ true
unfolding every
every_none p k n e = rw e refl

pub every_step : (p : ℕ → Bool) (k i : ℕ) → k ≤ i → every p k (i + 1 - k) ≡ every p k (i - k) && p i
every_step p k i h =
    let n : i + 1 - k ≡ i - k + 1 = omega arith in
    let j : k + (i - k) ≡ i = omega arith in
    rw (n, every_more p k (i - k), j) refl

-- a loop by eights that has come to i
pub every_eight : (p : ℕ → Bool) (i : ℕ) → every p 0 (i + 8) ≡ every p 0 i && every p i 8
every_eight p i = every_split p 0 i 8 ∙ rw (zero-add i) refl
