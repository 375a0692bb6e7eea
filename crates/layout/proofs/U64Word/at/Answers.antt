use mathlib.Core.Path.{◌∙◌}
use Rattle.layout.proofs.Words.{spells64}
use Rattle.layout.proofs.U64Word.at.Goals as goal

pub returns : goal.returns
returns c = c.from_le_bytes.ensures ∙ rw c.part.ensures (spells64 c.args.s.now c.args.at c.requires)
