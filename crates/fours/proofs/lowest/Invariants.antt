-- No number passed is hit.
use mathlib.Core.Bool.{false}
use Rattle.fours.specs.Between.{Between}
use Rattle.fours.proofs.lowest.Given as goal

abbrev pub invariant-loop-i : goal.invariant-loop-i
invariant-loop-i g l = Between (λ i. goal.F-post g l.hit i false) l.from l.i
