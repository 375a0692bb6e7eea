use mathlib.Core.Path.{refl}
use Rattle.rules.specs.Masks.{m_of, REMSET_MASK_INS}
use Rattle.masks.proofs.Masks.m_of.Goals as goal

pub returns : goal.returns
unfolding m_of REMSET_MASK_INS
returns c =
    refl
