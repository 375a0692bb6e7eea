use mathlib.Core.Path.{ap, ◌∙◌}
use native.Mathlib.Omega.{arith}
use Rattle.std.specs.Int.{from_bool}
use Rattle.counts.proofs.Counting.{at_most_one, from_first, from_last, from_turn, from-past-empty}
use Rattle.counts.proofs.waiting.Goals as goal

pub loop-i-preserved-then-next-i : goal.loop-i-preserved-then-next-i
loop-i-preserved-then-next-i c =
    let passed = from-past-empty c.args.slots.now c.args.scan.flip c.args.scan.position c.run_in_use-run.result.next c.past_empty.result.0 (rw c.slot_count-end.ensures at c.past_empty.ensures) in
    rw c.from-next.ensures (omega arith, omega (arith, c.past_empty.ensures.1), omega arith)

pub loop-last-preserved : goal.loop-last-preserved
loop-last-preserved c =
    let turn = from_turn c.args.slots.now c.args.scan.flip c.args.scan.position c.loop-last.last (omega (arith, c.slot_count-end.ensures, c.loop-last-test.true)) in
    let here = c.from-n.ensures ∙ ap from_bool c.waits.ensures in
    let most = at_most_one c.waits.result in
    (omega (arith, most, c.from-n.ensures), omega arith)

pub returns : goal.returns
returns c =
    omega (arith, from_first c.args.slots.now c.args.scan.flip c.args.scan.position, from_last c.args.slots.now c.args.scan.flip c.args.scan.position c.loop-last.last (omega (arith, c.slot_count-end.ensures, c.loop-last-test.false)))
