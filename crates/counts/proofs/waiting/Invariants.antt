-- What is counted and what is still to be counted is the whole.
use Prim.Native.Nat.{◌-◌, ◌≤◌}
use Rattle.counts.specs.Waiting.{Counted}
use Rattle.counts.proofs.waiting.Given as goal

abbrev pub invariant-loop-i : goal.invariant-loop-i
invariant-loop-i l = (l.n ≤ l.i) × (l.i ≤ l.end) × Counted l.scan.flip l.scan.position l.slots 0 l.i l.n

abbrev pub decreases-loop-i : goal.decreases-loop-i
decreases-loop-i l = l.end - l.i

abbrev pub invariant-loop-last : goal.invariant-loop-last
invariant-loop-last l = (l.n ≤ l.last) × Counted l.scan.flip l.scan.position l.slots 0 l.last l.n
