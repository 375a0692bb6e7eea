use Rattle.std.proofs.Common.{rules}
use Rattle.positions.proofs.Position.{free_nowhere}
use Rattle.positions.proofs.free_position.Goals as goal

pub returns : goal.returns
returns c =
    let n = c.counts-p-end in
    let loop = c.loop-p in
    let test = c.loop-p-test in
    free_nowhere c.args.desk.now c.masks_at-active.ensures (λ j lo hi. loop.invariant j lo (search rules))
