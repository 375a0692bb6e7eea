use mathlib.Core.Path.{◌≡◌}
use Prim.Native.Nat.{◌-◌}
use Rattle.soundness.specs.Every.{every}
use Rattle.soundness.specs.Holds.{holds}
use Rattle.soundness.proofs.cards.Cards.eight_sound.Given as goal

-- The cards looked at so far keep their rules exactly where `sound`.
abbrev pub invariant-loop-i : goal.invariant-loop-i
invariant-loop-i l = l.sound ≡ every (holds l.self) l.p (l.i - l.p)
