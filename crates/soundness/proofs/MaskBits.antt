-- The bits of the masks that the code looks at.
use mathlib.Core.Path.{◌≡◌, refl, sym, ap, ◌∙◌}
use mathlib.Core.Bool.{Bool, true, false}
use Prim.Native.Nat.{ℕ, ◌+◌, ◌-◌, ◌/◌, ◌%◌, ◌^◌, ◌≤◌, ◌<◌, min}
use native.Mathlib.Omega.{arith}
use lib.Pow.{shr-shr, field, mod-mod-pow}
use lib.Bits.{bit_and, and_le_l}
use lib.Dec.{eqb}
use borrow.Author.Tests.{eqb-true, eqb-false}
use Rattle.rules.specs.Masks.{bit, NOT}
use Rattle.rules.proofs.Bits.{bit_low, bit-zero, bit-and, bit_not, bit-ones, bit_ext}

-- the low bits of a number are those of its remainder
bit_low_part : (x w i : ℕ) → i < w → bit (x % 2 ^ w) i ≡ bit x i
unfolding bit
bit_low_part x w i h =
    let j : ℕ = w - (i + 1) in
    let e : w ≡ j + 1 + i = omega arith in
    rw (e, field x (j + 1) i) (mod-mod-pow (x / 2 ^ i) j 1)

-- a byte of a mask has its bits
pub byte_bit : (x k i : ℕ) → i < 8 → bit (x / 2 ^ k % 256) i ≡ bit x (k + i)
unfolding bit
byte_bit x k i h = bit_low_part (x / 2 ^ k) 8 i h ∙ shifted
  where
    shifted : bit (x / 2 ^ k) i ≡ bit x (k + i)
    shifted = rw (shr-shr x k i) refl

-- a whole byte of ones, of zeros
module _ (x k i : ℕ) (h : k ≤ i) (b : i < k + 8) where
  in_byte : bit x i ≡ bit (x / 2 ^ k % 256) (i - k)
  in_byte = let f : k + (i - k) ≡ i = omega arith in sym (byte_bit x k (i - k) (omega arith) ∙ ap (bit x) f)

  pub byte_on : x / 2 ^ k % 256 ≡ 255 → bit x i ≡ 1
  byte_on e = in_byte ∙ ap (λ (y : ℕ). bit y (i - k)) e ∙ bit-ones 8 (i - k) (omega arith)

  pub byte_off : x / 2 ^ k % 256 ≡ 0 → bit x i ≡ 0
  byte_off e = in_byte ∙ ap (λ (y : ℕ). bit y (i - k)) e ∙ bit-zero (i - k)

-- `active & !local == 0` says that every idle position's local active bit is 1
module _ (a l : ℕ) (s : l < 2 ^ 64) where
  pub idle_local : bit_and a (NOT 64 l) ≡ 0 → (i : ℕ) → i < 64 → bit a i ≡ 1 → bit l i ≡ 1
  idle_local e i h o =
      omega (arith, bit-and a (NOT 64 l) i, ap (λ (x : ℕ). bit x i) e, bit-zero i, bit_not 64 l i s h, bit_low l i)

  pub local-idle : a < 2 ^ 64 → ((i : ℕ) → i < 64 → bit a i ≡ 1 → bit l i ≡ 1) → bit_and a (NOT 64 l) ≡ 0
  local-idle b f = bit_ext 64 (bit_and a (NOT 64 l)) 0 (omega (arith, and_le_l a (NOT 64 l))) (omega arith) (λ i h. bit-and a (NOT 64 l) i ∙ rw (bit_not 64 l i s h) (go i h (eqb (bit a i) 1) refl ∙ sym (bit-zero i)))
    where
      go : (i : ℕ) → i < 64 → (x : Bool) → eqb (bit a i) 1 ≡ x → min (bit a i) (1 - bit l i) ≡ 0
      go i h true e = omega (arith, f i h (eqb-true (bit a i) 1 e))
      go i h false e = let n : bit a i ≡ 1 → ⊥ = eqb-false (bit a i) 1 e in omega (arith, bit_low a i)
