use mathlib.Core.Path.{◌≡◌, refl, ◌∙◌}
use Prim.Native.Nat.{◌+◌, ◌-◌}
use native.Mathlib.Omega.{arith}
use Rattle.rules.specs.Bytes.{field}
use Rattle.layout.proofs.part.Goals as goal

pub returns : goal.returns
unfolding field
returns g c =
    let width : c.args.at + g.row.N - c.args.at ≡ g.row.N = omega arith in
    (rw c.unwrap.ensures at c.try_into.ensures.1).same ∙ rw width refl
