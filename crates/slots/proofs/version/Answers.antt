use mathlib.Core.Path.{◌≡◌, refl}
use Prim.Native.Nat.{◌+◌, ◌-◌}
use native.Mathlib.Omega.{arith}
use Rattle.rules.specs.Bytes.{field}
use Rattle.slots.proofs.version.Goals as goal

pub returns : goal.returns
unfolding field
returns c =
    let start = c.start-from in
    let width : start.result + 56 - start.result ≡ 56 = omega arith in
    (rw (width, start.ensures) refl, rw start.ensures refl)
