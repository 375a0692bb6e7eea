-- No slot passed holds a version that the scan awaits.
use Prim.Native.Nat.{◌-◌}
use Rattle.rules.specs.Memory.{slots_of}
use Rattle.search.specs.Passed.{Passed}
use Rattle.looks.specs.Walked.{waits_in}
use Rattle.looks.proofs.walk.walk.Given as goal

abbrev pub invariant-loop-i : goal.invariant-loop-i
invariant-loop-i l = Passed (waits_in l.fn.scan.flip l.fn.scan.position (slots_of l.slots)) l.start l.stop l.i

abbrev pub decreases-loop-i : goal.decreases-loop-i
decreases-loop-i l = l.stop - l.i
