use native.Mathlib.Omega.{arith}
use Rattle.masks.specs.Held.{held}
use Rattle.joins.proofs.Desks.{masks_puts}
use Rattle.desk.proofs.write.put_masks.Goals as goal

pub returns : goal.returns
returns c = rw (c.put_at-3.ensures, c.put_at-2.ensures, c.put_at.ensures) (masks_puts c.args.desk.now (held c.args.m) (omega arith))
