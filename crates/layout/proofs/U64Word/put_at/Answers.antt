use mathlib.Core.Path.{ap, ◌∙◌}
use Rattle.layout.specs.Puts.{put, put64}
use Rattle.layout.proofs.Words.{spelt}
use Rattle.layout.proofs.U64Word.put_at.Goals as goal

pub returns : goal.returns
unfolding put64
returns c = c.put_part.ensures ∙ ap (put c.args.s.now c.args.at) (c.to_le_bytes.ensures ∙ spelt 8 c.args.self)
