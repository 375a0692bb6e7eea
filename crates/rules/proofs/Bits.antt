-- Masks bit by bit, for every position and width.
use mathlib.Core.Path.{◌≡◌, refl, sym, ap, ◌∙◌}
use mathlib.Core.Bool.{Bool, true, false, not}
use Prim.Native.Nat.{ℕ, zero, suc, ◌+◌, ◌*◌, ◌-◌, ◌/◌, ◌%◌, ◌^◌, ◌<◌, min, max}
use native.Mathlib.Nat.{mod-eq_of_lt, div-eq_of_lt, one-mul, add-zero, pow-suc, pow-succ', div-div-eq-div-mul}
use native.Mathlib.Omega.{arith}
use native.Mathlib.Decide.{dec_lt}
use lib.Pow.{pow_pos, pow-lt, pow-add, ones_split, high}
use lib.Bits.{bit_and, bit_or, bit_xor, differ, and_step, or_step, xor_step, and_shr, or_shr, xor_shr, and_mask, xor_add_and}
use borrow.Author.Tests.{eq-eqb, ne_eqb, eqb-true, eqb-false}
use Rattle.rules.specs.Masks.{bit, on, off, ones, NOT, scan_mask}

pub bit_low : (x i : ℕ) → bit x i < 2
unfolding bit
bit_low x i = omega arith

pub bit-zero : (i : ℕ) → bit 0 i ≡ 0
unfolding bit
bit-zero i = rw (div-eq_of_lt (pow_pos i)) refl

-- a bit that is not 1 is 0
pub not_on : (x i : ℕ) → not (on x i) ≡ off x i
not_on x i = go (on x i) refl
  where
    go : (b : Bool) → on x i ≡ b → not b ≡ off x i
    go true e = sym (ne_eqb (bit x i) 0 (λ z. omega (arith, eqb-true (bit x i) 1 e)))
    go false e = sym (eq-eqb (bit x i) 0 (omega (arith, bit_low x i, eqb-false (bit x i) 1 e)))

pub bit-and : (a b i : ℕ) → bit (bit_and a b) i ≡ min (bit a i) (bit b i)
unfolding bit
bit-and a b i = rw (and_shr a b i) (omega (arith, and_step (a / 2 ^ i) (b / 2 ^ i)))

pub bit-or : (a b i : ℕ) → bit (bit_or a b) i ≡ max (bit a i) (bit b i)
unfolding bit
bit-or a b i = rw (or_shr a b i) (omega (arith, or_step (a / 2 ^ i) (b / 2 ^ i)))

differ_is : (x y : ℕ) → x < 2 → y < 2 → differ x y ≡ (x + y) % 2
differ_is zero zero p q = refl
differ_is zero (suc zero) p q = refl
differ_is (suc zero) zero p q = refl
differ_is (suc zero) (suc zero) p q = refl
differ_is (suc (suc x)) y p q = absurd (omega arith)
differ_is zero (suc (suc y)) p q = absurd (omega arith)
differ_is (suc zero) (suc (suc y)) p q = absurd (omega arith)

low_xor : (a b : ℕ) → bit_xor a b % 2 ≡ (a % 2 + b % 2) % 2
low_xor a b = omega (arith, xor_step a b, differ_is (a % 2) (b % 2) (omega arith) (omega arith))

pub bit-xor : (a b i : ℕ) → bit (bit_xor a b) i ≡ (bit a i + bit b i) % 2
unfolding bit
bit-xor a b i = rw (xor_shr a b i) (low_xor (a / 2 ^ i) (b / 2 ^ i))

pub bit-ones : (w i : ℕ) → i < w → bit (ones w) i ≡ 1
unfolding bit
bit-ones w i h =
    let j : ℕ = w - (i + 1) in
    let e : w ≡ j + 1 + i = omega arith in
    let o : 2 ^ i - 1 < 2 ^ i = omega (arith, pow_pos i) in
    rw (e, ones_split (j + 1) i, high (2 ^ (j + 1) - 1) i o, pow-add 2 j 1) (omega (arith, pow_pos j))

pub not-xor : (w x : ℕ) → x < 2 ^ w → NOT w x ≡ bit_xor x (ones w)
unfolding NOT
not-xor w x h = omega (arith, xor_add_and x (2 ^ w - 1), and_mask x w, mod-eq_of_lt h)

pub bit_not : (w x i : ℕ) → x < 2 ^ w → i < w → bit (NOT w x) i ≡ 1 - bit x i
bit_not w x i h k = rw (not-xor w x h, bit-xor x (ones w) i, bit-ones w i k) (omega (arith, bit_low x i))

pub not_small : (w x : ℕ) → NOT w x < 2 ^ w
unfolding NOT
not_small w x = omega (arith, pow_pos w)

-- two masks of w bits with the same bits are one
pub bit_ext : (w a b : ℕ) → a < 2 ^ w → b < 2 ^ w → ((i : ℕ) → i < w → bit a i ≡ bit b i) → a ≡ b
unfolding bit
bit_ext zero a b p q f = omega arith
bit_ext (suc w) a b p q f =
    let z : a / 2 ^ 0 % 2 ≡ b / 2 ^ 0 % 2 = f 0 (omega arith) in
    let g : (i : ℕ) → i < w → a / 2 / 2 ^ i % 2 ≡ b / 2 / 2 ^ i % 2 =
    λ i l. rw (div-div-eq-div-mul a 2 (2 ^ i), div-div-eq-div-mul b 2 (2 ^ i), ← pow-succ' 2 i) (f (suc i) (omega arith)) in
    let r : a / 2 ≡ b / 2 = bit_ext w (a / 2) (b / 2) (omega (arith, pow-suc 2 w)) (omega (arith, pow-suc 2 w)) g in
    omega arith

-- ---- the scan mask

pub scan_own : (p : ℕ) → bit (scan_mask p) p ≡ 1
unfolding bit scan_mask
scan_own p = rw (ap (λ (x : ℕ). x / 2 ^ p) (sym (add-zero (2 ^ p)) ∙ ap (λ (x : ℕ). x + 0) (sym (one-mul (2 ^ p)))), high 1 p (pow_pos p)) refl

pub scan_other : (p i : ℕ) → (i ≡ p → ⊥) → bit (scan_mask p) i ≡ 0
unfolding bit scan_mask
scan_other p i d = go (dec_lt i p)
  where
    go : Dec (i < p) → 2 ^ p / 2 ^ i % 2 ≡ 0
    go (yes h) =
        let j : ℕ = p - (i + 1) in
        let e : p ≡ j + 1 + i = omega arith in
        rw (e, pow-add 2 (j + 1) i, ap (λ (x : ℕ). x / 2 ^ i) (sym (add-zero (2 ^ (j + 1) * 2 ^ i))), high (2 ^ (j + 1)) i (pow_pos i), pow-add 2 j 1) (omega arith)
    go (no h) = rw (div-eq_of_lt (pow-lt {i = p} {j = i} (omega arith))) refl

pub scan_small : (w p : ℕ) → p < w → scan_mask p < 2 ^ w
unfolding scan_mask
scan_small w p h = pow-lt h
