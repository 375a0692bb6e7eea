use mathlib.Core.Path.{refl}
use Rattle.rules.specs.Masks.{new_status, STATUS_MASK_UPD, NOT}
use Rattle.masks.proofs.Masks.new_status.Goals as goal

pub returns : goal.returns
unfolding new_status STATUS_MASK_UPD NOT
returns c =
    refl
