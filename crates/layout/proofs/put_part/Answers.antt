use Prim.Native.Nat.{◌+◌, ◌-◌}
use native.Mathlib.Omega.{arith}
use Rattle.layout.proofs.Fields.{part-written}
use Rattle.layout.proofs.put_part.Goals as goal

pub returns : goal.returns
returns g c = part-written c.args.s.now c.args.at g.row.N (c.args.at + g.row.N - c.args.at) (omega arith) c.requires c.copy_from_slice.ensures.after (omega arith)
