use mathlib.Core.Path.{refl}
use Rattle.rules.specs.Masks.{walk_begun, cleared, NOT}
use Rattle.masks.proofs.Masks.begun.Goals as goal

pub returns : goal.returns
unfolding walk_begun cleared NOT
returns c =
    let scan-mask = c.scan_mask-others in
    rw scan-mask.ensures refl
