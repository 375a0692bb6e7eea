-- The rules before the cards, as the code tests them.
use mathlib.Core.Path.{◌≡◌, refl, sym}
use mathlib.Core.Bool.{◌&&◌, and-true, and_assoc}
use mathlib.Core.List.{List}
use Prim.Native.Nat.{ℕ}
use lib.Dec.{eqb}
use Rattle.rules.specs.Bytes.{field, u32_at, u64_at}
use Rattle.rules.specs.Masks.{ones, from}
use Rattle.rules.specs.Memory.{desk_of, masks_of}
use Rattle.rules.specs.Sound.{n_in_range, all_zero, head_rules, all_hold}
use Rattle.numbers.specs.Head.{high_bits}
use Rattle.soundness.specs.Words.{zero_words}
use Rattle.soundness.proofs.Zeros.{reserved_is}

module _ (d : List ℕ) where
  pub head_is : (t r : ℕ)
      → n_in_range (u32_at d 0) && (eqb (u32_at d 4) t && (eqb (u32_at d 8) r && (all_zero (field 24 40 d) && high_bits (u32_at d 0) (masks_of d)))) ≡ all_hold (head_rules (desk_of d) t r)
  unfolding all_hold head_rules desk_of
  head_is t r = rw (and-true (eqb (from (u32_at d 0) (u64_at d 32)) (from (u32_at d 0) (ones 64)))) refl

  -- in the order of the code
  pub head_by : (t r : ℕ) → all_hold (head_rules (desk_of d) t r) ≡ (n_in_range (u32_at d 0) && (eqb (u32_at d 4) t && eqb (u32_at d 8) r)) && (zero_words d 5 8 && high_bits (u32_at d 0) (masks_of d))
  head_by t r =
      let n = n_in_range (u32_at d 0) in
      let rest = all_zero (field 24 40 d) && high_bits (u32_at d 0) (masks_of d) in
      sym (rw (reserved_is d, and_assoc n (eqb (u32_at d 4) t && eqb (u32_at d 8) r) rest, and_assoc (eqb (u32_at d 4) t) (eqb (u32_at d 8) r) rest) (head_is t r))
