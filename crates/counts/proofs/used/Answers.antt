use mathlib.Core.Path.{ap, ◌∙◌}
use Prim.Native.Nat.{◌/◌}
use native.Mathlib.Omega.{arith}
use lib.ListN.{length}
use Rattle.std.specs.Int.{from_bool}
use Rattle.rules.specs.Calls.{in_use}
use Rattle.rules.specs.Memory.{slot_at}
use Rattle.joins.proofs.Search.{count_turn, count_end}
use Rattle.counts.proofs.Counting.{at_most_one}
use Rattle.counts.proofs.used.Goals as goal

pub loop-i-preserved : goal.loop-i-preserved
loop-i-preserved c =
    let turn = count_turn in_use (slot_at c.args.slots.now) c.loop-i.i (length c.args.slots.now / 64) (omega (arith, c.slot_count-i-end.ensures, c.loop-i-test.true)) in
    let here = c.from-n.ensures ∙ ap from_bool c.in_use.ensures in
    let most = at_most_one c.in_use.result in
    (omega (arith, most, c.from-n.ensures), omega arith)

pub returns : goal.returns
returns c =
    omega (arith, count_end in_use (slot_at c.args.slots.now) c.loop-i.i (length c.args.slots.now / 64) (omega (arith, c.slot_count-i-end.ensures, c.loop-i-test.false)))
