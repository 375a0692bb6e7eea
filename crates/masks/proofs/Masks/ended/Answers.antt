use mathlib.Core.Path.{refl}
use Rattle.rules.specs.Masks.{ended, ACTIVE_MASK_UPD}
use Rattle.masks.proofs.Masks.ended.Goals as goal

pub returns : goal.returns
unfolding ended ACTIVE_MASK_UPD
returns c =
    let scan-mask = c.scan_mask-own in
    rw scan-mask.ensures refl
