-- The masks that the code holds, as the rules have them.
use Rattle.masks.specs.declared.Masks.{Masks}
use Rattle.rules.specs.Masks.{masks}

abbrev pub held : Masks → Rattle.rules.specs.Masks.Masks
held m = masks m.stable m.active m.local
