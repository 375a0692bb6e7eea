-- What is counted and what is still to be counted is what there was from the start.
use Prim.Native.Nat.{◌+◌, ◌*◌, ◌≤◌}
use Rattle.counts.specs.Waiting.{Counted}
use Rattle.counts.proofs.run_in_use.Given as goal

abbrev pub invariant-loop-block : goal.invariant-loop-block
invariant-loop-block l = (l.n ≤ 4 * l.block) × Counted l.scan.flip l.scan.position l.slots l.from (l.from + 4 * l.block) l.n
