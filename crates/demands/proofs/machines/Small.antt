-- Small stores to try calls on.
use mathlib.Core.Path.{refl}
use mathlib.Core.List.{List, ◌∷◌}
use Prim.Native.Nat.{ℕ, ◌*◌, ◌<◌}
use native.Mathlib.Omega.{arith}
use lib.ListN.{replicate}
use Rattle.rules.specs.Passed.{All, Byte}
use Rattle.demands.specs.Lives.{Opening}
use Rattle.rules.specs.Memory.{Lent, lent}
use Rattle.rules.specs.Refusals.{lengths_right}
use Rattle.stores.proofs.Sizes.{zero-bytes}

-- a store of n positions, one slot and r entries, over zero bytes
unfoldable pub small : (n r : ℕ) → Lent
small n r = lent (replicate 1088 0) (replicate 64 0) (replicate (r * 64) 0)

-- one position, one entry
unfoldable pub tiny : Opening
unfolding lengths_right small
tiny = record { old = small 1 1; n = 1; bytes = record { desk = zero-bytes 1088; table = zero-bytes 64; shelf = zero-bytes 64 }; lengths = refl; in_range = refl }

-- three positions, a pair of entries
unfoldable pub pair : Opening
unfolding lengths_right small
pair = record { old = small 3 2; n = 3; bytes = record { desk = zero-bytes 1088; table = zero-bytes 64; shelf = zero-bytes 128 }; lengths = refl; in_range = refl }

-- a body: start day, kind 1, the host's bytes
unfoldable pub body_of : ℕ → List ℕ
body_of x = x ∷ 0 ∷ 0 ∷ 0 ∷ 1 ∷ replicate 47 0

pub body_bytes : (x : ℕ) → x < 256 → All Byte (body_of x)
unfolding body_of
body_bytes x h = (h, (omega arith, (omega arith, (omega arith, (omega arith, zero-bytes 47)))))
