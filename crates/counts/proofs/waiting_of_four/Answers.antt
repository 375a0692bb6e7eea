-- One turn of the count for each of the four.
use native.Mathlib.Omega.{arith}
use Rattle.counts.proofs.Counting.{at_most_one, four_counted}
use Rattle.counts.proofs.waiting_of_four.Goals as goal

pub returns : goal.returns
returns c = (
  omega (arith, c.from.ensures, c.from-2.ensures, c.from-3.ensures, c.from-4.ensures, at_most_one c.waits.result, at_most_one c.waits-2.result, at_most_one c.waits-3.result, at_most_one c.waits-4.result),
  four_counted c.args.slots.now c.args.scan.now.flip c.args.scan.now.position c.args.i c.requires c.waits.ensures c.waits-2.ensures c.waits-3.ensures c.waits-4.ensures c.from.ensures c.from-2.ensures c.from-3.ensures c.from-4.ensures,
)
