-- Bits of the masks from N up.
use mathlib.Core.Path.{◌≡◌}
use Prim.Native.Nat.{ℕ, ◌^◌, ◌≤◌, ◌<◌}
use native.Mathlib.Nat.{div-eq_of_lt}
use native.Mathlib.Omega.{arith}
use lib.Pow.{pow_mono}
use Rattle.rules.specs.Masks.{from}

-- a mask of 64 bits has none from 64 up
pub from_past : (n x : ℕ) → 64 ≤ n → x < 2 ^ 64 → from n x ≡ 0
unfolding from
from_past n x h k = div-eq_of_lt (omega (arith, pow_mono {i = 64} {j = n} h))
