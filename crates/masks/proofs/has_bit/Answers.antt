use mathlib.Core.Path.{refl}
use Rattle.rules.specs.Masks.{bit}
use Rattle.masks.proofs.has_bit.Goals as goal

pub returns : goal.returns
unfolding bit
returns c = rw c.from.ensures.0 refl
