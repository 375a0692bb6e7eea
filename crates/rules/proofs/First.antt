-- Laws of a search for the first number that passes.
use mathlib.Core.Path.{◌≡◌, refl, sym, ap, ◌∙◌}
use mathlib.Core.Bool.{Bool, true, false, ◌||◌, false≢true}
use Prim.Native.Nat.{ℕ, zero, suc, ◌+◌, ◌-◌, ◌≤◌, ◌<◌}
use native.Mathlib.Nat.{suc-add, add-zero, zero-add, sub-zero}
use native.Mathlib.Numerals.{add-one}
use native.Mathlib.Omega.{arith}
use native.Mathlib.Decide.{dec_lt, ℕ_discrete}
use Rattle.rules.specs.Calls.{first}

module _ (p : ℕ → Bool) where
  -- one turn, by the numbers left
  first-here : (i n : ℕ) → p i ≡ true → first p i (suc n) ≡ i
  unfolding first
  first-here i n e = rw (first, e) refl

  first_next : (i n : ℕ) → p i ≡ false → first p i (suc n) ≡ first p (suc i) n
  unfolding first
  first_next i n e = rw (first, e) refl

  -- one turn of a search up to s
  module _ (i s : ℕ) where
    pub first-hit : i < s → p i ≡ true → first p i (s - i) ≡ i
    first-hit h e = let z : s - i ≡ suc (s - (i + 1)) = omega arith in rw z (first-here i (s - (i + 1)) e)

    pub first_miss : i < s → p i ≡ false → first p i (s - i) ≡ first p (i + 1) (s - (i + 1))
    first_miss h e = let z : s - i ≡ suc (s - suc i) = omega arith in rw (z, add-one i) (first_next i (s - suc i) e)

    pub first_end : s ≤ i → first p i (s - i) ≡ i
    unfolding first
    first_end h = let z : s - i ≡ 0 = omega arith in rw z refl

  -- where it ends
  pub first_most : (i n : ℕ) → first p i n ≤ i + n
  unfolding first
  first_most i zero = omega arith
  first_most i (suc n) = go (first_most (suc i) n) (p i) refl
    where
      go : first p (suc i) n ≤ suc i + n → (t : Bool) → p i ≡ t → first p i (suc n) ≤ i + suc n
      go most true e = omega (arith, first-here i n e)
      go most false e = omega (arith, first_next i n e)

  pub first-least : (i n : ℕ) → i ≤ first p i n
  unfolding first
  first-least i zero = omega arith
  first-least i (suc n) = go (first-least (suc i) n) (p i) refl
    where
      go : suc i ≤ first p (suc i) n → (t : Bool) → p i ≡ t → i ≤ first p i (suc n)
      go least true e = omega (arith, first-here i n e)
      go least false e = omega (arith, first_next i n e)

  -- what is found passes, and nothing before it
  pub first_found : (i n : ℕ) → first p i n < i + n → p (first p i n) ≡ true
  unfolding first
  first_found i zero h = absurd (omega arith)
  first_found i (suc n) h = go (first_found (suc i) n) (p i) refl
    where
      go : (first p (suc i) n < suc i + n → p (first p (suc i) n) ≡ true) → (t : Bool) → p i ≡ t → p (first p i (suc n)) ≡ true
      go found true e = ap p (first-here i n e) ∙ e
      go found false e = ap p (first_next i n e) ∙ found (omega (arith, first_next i n e))

  pub first-before : (i n j : ℕ) → i ≤ j → j < first p i n → p j ≡ false
  unfolding first
  first-before i zero j from h = absurd (omega arith)
  first-before i (suc n) j from h = go (first-before (suc i) n j) (p i) refl (ℕ_discrete i j)
    where
      go : (suc i ≤ j → j < first p (suc i) n → p j ≡ false) → (t : Bool) → p i ≡ t → Dec (i ≡ j) → p j ≡ false
      go before true e at? = absurd (omega (arith, first-here i n e))
      go before false e (yes at) = ap p (sym at) ∙ e
      go before false e (no at) = before (omega arith) (omega (arith, first_next i n e))

  -- a search in two parts: the first part finds, or does not
  pub first_split_found : (i n m : ℕ) → first p i n < i + n → first p i (n + m) ≡ first p i n
  unfolding first
  first_split_found i zero m h = absurd (omega arith)
  first_split_found i (suc n) m h = rw (suc-add n m) (go (first_split_found (suc i) n m) (p i) refl)
    where
      go : (first p (suc i) n < suc i + n → first p (suc i) (n + m) ≡ first p (suc i) n) → (t : Bool) → p i ≡ t → first p i (suc (n + m)) ≡ first p i (suc n)
      go found true e = first-here i (n + m) e ∙ sym (first-here i n e)
      go found false e = first_next i (n + m) e ∙ found (omega (arith, first_next i n e)) ∙ sym (first_next i n e)

  pub first_split_none : (i n m : ℕ) → i + n ≤ first p i n → first p i (n + m) ≡ first p (i + n) m
  unfolding first
  first_split_none i zero m h = rw (zero-add m, add-zero i) refl
  first_split_none i (suc n) m h = rw (suc-add n m) (go (first_split_none (suc i) n m) (p i) refl)
    where
      go : (suc i + n ≤ first p (suc i) n → first p (suc i) (n + m) ≡ first p (suc i + n) m) → (t : Bool) → p i ≡ t → first p i (suc (n + m)) ≡ first p (i + suc n) m
      go none true e = absurd (omega (arith, first-here i n e))
      go none false e =
          let z : suc i + n ≡ i + suc n = omega arith in
          first_next i (n + m) e ∙ none (omega (arith, first_next i n e)) ∙ ap (λ (k : ℕ). first p k m) z

-- two tests that agree where they are asked
pub first-same : (p q : ℕ → Bool) (i n : ℕ) → ((j : ℕ) → i ≤ j → j < i + n → p j ≡ q j) → first p i n ≡ first q i n
unfolding first
first-same p q i zero same = refl
first-same p q i (suc n) same = go (first-same p q (suc i) n (λ j from to. same j (omega arith) (omega arith))) (q i) refl
  where
    here : p i ≡ q i
    here = same i (omega arith) (omega arith)

    go : first p (suc i) n ≡ first q (suc i) n → (t : Bool) → q i ≡ t → first p i (suc n) ≡ first q i (suc n)
    go ih true e = first-here p i n (here ∙ e) ∙ sym (first-here q i n e)
    go ih false e = first_next p i n (here ∙ e) ∙ ih ∙ sym (first_next q i n e)

-- what passes is not below it
pub first-lowest : (p : ℕ → Bool) (i n j : ℕ) → i ≤ j → p j ≡ true → first p i n ≤ j
first-lowest p i n j from e = go (dec_lt j (first p i n))
  where
    go : Dec (j < first p i n) → first p i n ≤ j
    go (yes h) = absurd (false≢true (sym (first-before p i n j from h) ∙ e))
    go (no h) = omega arith

-- a search from a on, by the distance from a
pub first_shift : (p : ℕ → Bool) (a i n : ℕ) → first p (a + i) n ≡ a + first (λ j. p (a + j)) i n
unfolding first
first_shift p a i zero = refl
first_shift p a i (suc n) = go (first_shift p a (suc i) n) (p (a + i)) refl
  where
    go : first p (a + suc i) n ≡ a + first (λ j. p (a + j)) (suc i) n → (t : Bool) → p (a + i) ≡ t → first p (a + i) (suc n) ≡ a + first (λ j. p (a + j)) i (suc n)
    go ih true e = first-here p (a + i) n e ∙ ap (λ (k : ℕ). a + k) (sym (first-here (λ j. p (a + j)) i n e))
    go ih false e =
        let z : suc (a + i) ≡ a + suc i = omega arith in
        first_next p (a + i) n e ∙ ap (λ (k : ℕ). first p k n) z ∙ ih ∙ ap (λ (k : ℕ). a + k) (sym (first_next (λ j. p (a + j)) i n e))

-- a search from 0, as a loop begins it
pub first-start : (p : ℕ → Bool) (n : ℕ) → first p 0 n ≡ first p 0 (n - 0)
first-start p n = rw (sub-zero n) refl

-- nothing passes
pub first-none : (p : ℕ → Bool) (i n : ℕ) → ((k : ℕ) → i ≤ k → k < i + n → p k ≡ false) → first p i n ≡ i + n
first-none p i n f = go (dec_lt (first p i n) (i + n))
  where
    go : Dec (first p i n < i + n) → first p i n ≡ i + n
    go (yes d) = absurd (false≢true (sym (f (first p i n) (first-least p i n) d) ∙ first_found p i n d))
    go (no d) = omega (arith, first_most p i n)

-- four turns of a search up to s, tested at once
pub first_miss_four : (p : ℕ → Bool) (i s : ℕ) → i + 4 ≤ s → {x y z w : Bool} → p i ≡ x → p (i + 1) ≡ y → p (i + 2) ≡ z → p (i + 3) ≡ w → (x || y) || (z || w) ≡ false → first p i (s - i) ≡ first p (i + 4) (s - (i + 4))
first_miss_four p i s h {x} {y} {z} {w} a b c d none =
    let m = none_of x y z w none in
    let e : i + 1 + 1 ≡ i + 2 = omega arith in
    let f : i + 2 + 1 ≡ i + 3 = omega arith in
    let g : i + 3 + 1 ≡ i + 4 = omega arith in
    first_miss p i s (omega arith) (a ∙ m.0)
    ∙ rw e at (first_miss p (i + 1) s (omega arith) (b ∙ m.1))
    ∙ rw f at (first_miss p (i + 2) s (omega arith) (c ∙ m.2))
    ∙ rw g at (first_miss p (i + 3) s (omega arith) (d ∙ m.3))
  where
    none_of : (x y z w : Bool) → (x || y) || (z || w) ≡ false → (x ≡ false) × (y ≡ false) × (z ≡ false) × (w ≡ false)
    none_of false false false false e = (refl, refl, refl, refl)
    none_of false false false true e = absurd (false≢true (sym e))
    none_of false false true w e = absurd (false≢true (sym e))
    none_of false true z w e = absurd (false≢true (sym e))
    none_of true y z w e = absurd (false≢true (sym e))

-- past numbers that fail
pub first_past : (p : ℕ → Bool) (i r s : ℕ) → i ≤ r → r ≤ s → ((j : ℕ) → i ≤ j → j < r → p j ≡ false) → first p i (s - i) ≡ first p r (s - r)
first_past p i r s lo hi f =
    let a : s - i ≡ (r - i) + (s - r) = omega arith in
    let b : i + (r - i) ≡ r = omega arith in
    let n : first p i (r - i) ≡ i + (r - i) = first-none p i (r - i) (λ k x y. f k x (omega arith)) in
    rw a (first_split_none p i (r - i) (s - r) (omega arith) ∙ ap (λ (x : ℕ). first p x (s - r)) b)
