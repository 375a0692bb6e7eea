use mathlib.Core.Path.{◌≡◌}
use Prim.Native.Nat.{◌-◌, ◌%◌, ◌≤◌}
use Rattle.soundness.specs.Every.{every}
use Rattle.soundness.specs.Holds.{holds}
use Rattle.soundness.proofs.cards.Cards.all_sound.Given as goal

-- The cards looked at so far keep their rules exactly where `sound`.
abbrev pub invariant-loop-p : goal.invariant-loop-p
invariant-loop-p l = (l.p ≤ 64) × (l.p % 8 ≡ 0) × (l.sound ≡ every (holds l.self) 0 l.p)

abbrev pub decreases-loop-p : goal.decreases-loop-p
decreases-loop-p l = 64 - l.p
