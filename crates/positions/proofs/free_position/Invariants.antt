-- No position passed has its active bit 1.
use mathlib.Core.Path.{◌≡◌}
use mathlib.Core.Bool.{false}
use Rattle.rules.specs.Masks.{on}
use Rattle.fours.specs.Between.{Between}
use Rattle.positions.proofs.free_position.Given as goal

abbrev pub invariant-loop-p : goal.invariant-loop-p
invariant-loop-p l = Between (λ j. on l.active j ≡ false) 0 l.p
