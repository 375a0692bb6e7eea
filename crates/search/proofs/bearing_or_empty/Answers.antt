use Prim.Native.Nat.{◌/◌}
use native.Mathlib.Nat.{sub-zero}
use lib.ListN.{length}
use Rattle.search.proofs.bearing_or_empty.Goals as goal

pub returns : goal.returns
returns c = rw (sub-zero (length c.args.slots.now / 64)) at c.lowest.ensures
