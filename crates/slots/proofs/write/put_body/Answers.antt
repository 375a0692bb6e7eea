use mathlib.Core.Path.{◌∙◌, ap}
use Prim.Native.Nat.{◌+◌, ◌*◌}
use native.Mathlib.Omega.{arith}
use Rattle.rules.proofs.Bytes.{field-all}
use Rattle.layout.specs.Puts.{put}
use Rattle.slots.proofs.write.put_body.Goals as goal

pub returns : goal.returns
returns c = c.copy.ensures ∙ rw c.start.ensures (ap (put c.args.slots.now (c.args.i.0 * 64 + 4)) (field-all c.args.body.now 52 (omega arith)))
