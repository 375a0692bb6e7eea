-- Zero bytes, zero words, and the OR of words.
use mathlib.Core.Path.{◌≡◌, refl, sym, ap, ◌∙◌}
use mathlib.Core.Bool.{Bool, true, false, ◌&&◌, and_assoc, and-true}
use mathlib.Core.List.{List, [], ◌∷◌, ◌++◌}
use Prim.Native.Nat.{ℕ, ◌+◌, ◌*◌}
use native.Mathlib.Omega.{arith}
use lib.Bits.{bit_or, or_add_and, and_le_l, and_le_r}
use lib.Dec.{eqb}
use borrow.Author.Tests.{eqb-true, eqb-false, eq-eqb, ne_eqb}
use Rattle.rules.specs.Bytes.{le, field, u32_at, u64_at}
use Rattle.rules.specs.Sound.{all_zero}
use Rattle.rules.proofs.Bytes.{glue}
use Rattle.soundness.specs.Every.{every}
use Rattle.soundness.specs.Words.{zero_words}

-- two numbers that are zero together
both_zero : (x a b : ℕ) → (a ≡ 0 → b ≡ 0 → x ≡ 0) → (x ≡ 0 → a ≡ 0) → (x ≡ 0 → b ≡ 0) → eqb x 0 ≡ eqb a 0 && eqb b 0
both_zero x a b f g h = go (eqb a 0) refl (eqb b 0) refl
  where
    go : (u : Bool) → eqb a 0 ≡ u → (v : Bool) → eqb b 0 ≡ v → eqb x 0 ≡ u && v
    go true p true q = eq-eqb x 0 (f (eqb-true a 0 p) (eqb-true b 0 q))
    go true p false q = ne_eqb x 0 (λ z. eqb-false b 0 q (h z))
    go false p v q = ne_eqb x 0 (λ z. eqb-false a 0 p (g z))

pub or-zero : (a b : ℕ) → eqb (bit_or a b) 0 ≡ eqb a 0 && eqb b 0
or-zero a b =
    both_zero (bit_or a b) a b (λ p q. omega (arith, or_add_and a b)) (λ z. omega (arith, or_add_and a b, and_le_r a b))
    (λ z. omega (arith, or_add_and a b, and_le_l a b))

zero_le : (l : List ℕ) → all_zero l ≡ eqb (le l) 0
unfolding all_zero le
zero_le [] = refl
zero_le (x ∷ xs) =
    ap (λ (y : Bool). eqb x 0 && y) (zero_le xs)
    ∙ sym (both_zero (x + 256 * le xs) x (le xs) (λ p q. omega arith) (λ z. omega arith) (λ z. omega arith))

zero-append : (a b : List ℕ) → all_zero (a ++ b) ≡ all_zero a && all_zero b
unfolding all_zero
zero-append [] b = refl
zero-append (x ∷ xs) b = ap (λ (y : Bool). eqb x 0 && y) (zero-append xs b) ∙ sym (and_assoc (eqb x 0) (all_zero xs) (all_zero b))

module _ (d : List ℕ) where
  -- a zero word is two zero halves
  pub word_zero : (at : ℕ) → eqb (u64_at d at) 0 ≡ eqb (u32_at d at) 0 && eqb (u32_at d (at + 4)) 0
  unfolding u32_at u64_at
  word_zero at =
      sym (zero_le (field 8 at d))
      ∙ rw (← glue 4 4 at (at + 4) d refl, zero-append (field 4 at d) (field 4 (at + 4) d), zero_le (field 4 at d), zero_le (field 4 (at + 4) d)) refl

  -- bytes 40 to 63 are words 5 to 7
  pub reserved_is : zero_words d 5 8 ≡ all_zero (field 24 40 d)
  unfolding u64_at every
  reserved_is =
      sym
      (rw (
        ← glue 8 16 40 48 d refl,
        ← glue 8 8 48 56 d refl,
        zero-append (field 8 40 d) (field 8 48 d ++ field 8 56 d),
        zero-append (field 8 48 d) (field 8 56 d),
        zero_le (field 8 40 d),
        zero_le (field 8 48 d),
        zero_le (field 8 56 d),
        and-true (eqb (le (field 8 56 d)) 0),
      )
      refl)
