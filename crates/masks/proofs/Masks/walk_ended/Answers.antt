use mathlib.Core.Path.{refl}
use Rattle.rules.specs.Masks.{walk_ended, STABLE_FLIP, LCL_ACTIVE_MASK_UPD}
use Rattle.masks.proofs.Masks.walk_ended.Goals as goal

pub returns : goal.returns
unfolding walk_ended STABLE_FLIP LCL_ACTIVE_MASK_UPD
returns c =
    let scan-mask = c.scan_mask-own in
    rw scan-mask.ensures refl
