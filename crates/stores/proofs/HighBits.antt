-- The bits from N up: what each move of a position below N leaves of them.
use mathlib.Core.Path.{◌≡◌, sym, ap, ◌∙◌}
use Prim.Native.Nat.{ℕ, ◌+◌, ◌-◌, ◌/◌, ◌%◌, ◌^◌, ◌≤◌, ◌<◌}
use native.Mathlib.Nat.{div-eq_of_lt}
use native.Mathlib.Omega.{arith}
use lib.Pow.{pow-lt, shr-shr}
use lib.Bits.{bit_or, bit_xor, and_shr, or_shr, xor_shr, xor_zero_l, xor_zero_r, or_zero_r, and_self}
use Rattle.rules.specs.Masks.{bit, ones, NOT, from, scan_mask, cleared}
use Rattle.rules.proofs.Bits.{not-xor, bit-ones, scan_small, bit-zero}

module _ (n p x : ℕ) (h : p < n) where
  scan-from : scan_mask p / 2 ^ n ≡ 0
  unfolding scan_mask
  scan-from = div-eq_of_lt (pow-lt h)

  pub from_flip : from n (bit_xor x (scan_mask p)) ≡ from n x
  unfolding from
  from_flip = rw (xor_shr x (scan_mask p) n, scan-from) (xor_zero_r (x / 2 ^ n))

  pub from-set : from n (bit_or x (scan_mask p)) ≡ from n x
  unfolding from
  from-set = rw (or_shr x (scan_mask p) n, scan-from) (or_zero_r (x / 2 ^ n))

  pub from_clear : n ≤ 64 → from n x ≡ from n (ones 64) → from n (cleared x p) ≡ from n (ones 64)
  unfolding from cleared
  from_clear k e =
      rw (and_shr x (NOT 64 (scan_mask p)) n, not-xor 64 (scan_mask p) (scan_small 64 p (omega arith)), xor_shr (scan_mask p) (ones 64) n, scan-from, xor_zero_l (ones 64 / 2 ^ n), e)
      (and_self (ones 64 / 2 ^ n))

module _ (n i x : ℕ) (h : n ≤ i) where
  bit-from : bit x i ≡ bit (from n x) (i - n)
  unfolding bit from
  bit-from = rw (shr-shr x n (i - n)) (ap (λ (k : ℕ). x / 2 ^ k % 2) (add i n h))
    where
      add : (i n : ℕ) → n ≤ i → i ≡ n + (i - n)
      add i n h = omega arith

pub high_one : (n i x : ℕ) → n ≤ i → i < 64 → from n x ≡ from n (ones 64) → bit x i ≡ 1
high_one n i x h k e = bit-from n i x h ∙ ap (λ (y : ℕ). bit y (i - n)) e ∙ sym (bit-from n i (ones 64) h) ∙ bit-ones 64 i k

pub high_zero : (n i x : ℕ) → n ≤ i → from n x ≡ 0 → bit x i ≡ 0
high_zero n i x h e = bit-from n i x h ∙ ap (λ (y : ℕ). bit y (i - n)) e ∙ bit-zero (i - n)
