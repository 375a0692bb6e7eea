use mathlib.Core.Path.{sym, ◌∙◌}
use native.Mathlib.Omega.{arith}
use Rattle.looks.proofs.Walked.{empty_on, walked_end}
use Rattle.looks.proofs.walk.walk.Goals as goal

pub loop-i-preserved-then-not-in_use : goal.loop-i-preserved-then-not-in_use
loop-i-preserved-then-not-in_use c =
    rw c.from-i.ensures (empty_on c.args.slots.now c.args.scan.flip c.args.scan.position (omega (arith, c.min-stop.ensures, c.slot_count-end.ensures)) c.loop-i.invariant (omega (arith, c.if-i-stop.false)) (sym c.in_use.ensures ∙ c.if-not-in_use.true) c.past_empty.ensures)

pub returns-else-stop-end : goal.returns-else-stop-end
returns-else-stop-end c =
    let come = rw (c.min-stop.ensures, c.slot_count-end.ensures, c.from-start.ensures) at c.loop-i.invariant in
    rw (c.slot_count-end.ensures, c.from-start.ensures) (walked_end _ c.args.from.0 c.args.budget _ come (omega (arith, c.min-stop.ensures, c.slot_count-end.ensures, c.from-start.ensures, c.if-i-stop.true)) (omega (arith, c.min-stop.ensures, c.slot_count-end.ensures, c.from-start.ensures, c.if-stop-end.false)))
