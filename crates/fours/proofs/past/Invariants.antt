-- No number of the blocks passed is hit.
use mathlib.Core.Bool.{false}
use Prim.Native.Nat.{◌+◌, ◌*◌}
use Rattle.fours.specs.Between.{Between}
use Rattle.fours.proofs.past.Given as goal

abbrev pub invariant-loop-block : goal.invariant-loop-block
invariant-loop-block g l = Between (λ i. goal.F-post g l.hit i false) l.from (l.from + 4 * l.block)
