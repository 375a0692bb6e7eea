use Prim.Native.Nat.{◌-◌, ◌/◌}
use lib.ListN.{length}
use Rattle.search.proofs.Passing.{same_number}
use Rattle.search.proofs.bearing.Goals as goal

pub returns : goal.returns
returns c =
    let l = c.args.slots.now in
    rw (same_number l c.args.k.0 c.args.from.0 (length l / 64 - c.args.from.0)) at c.lowest.ensures
