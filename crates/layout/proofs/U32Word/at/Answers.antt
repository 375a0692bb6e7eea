use mathlib.Core.Path.{◌∙◌}
use Rattle.layout.proofs.Words.{spells32}
use Rattle.layout.proofs.U32Word.at.Goals as goal

pub returns : goal.returns
returns c = c.from_le_bytes.ensures ∙ rw c.part.ensures (spells32 c.args.s.now c.args.at c.requires)
