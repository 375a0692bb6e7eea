use mathlib.Core.Path.{◌≡◌}
use lib.Dec.{eqb}
use Rattle.soundness.specs.Words.{zero_words}
use Rattle.soundness.proofs.words.zero_words.Given as goal

abbrev pub invariant-loop-i : goal.invariant-loop-i
invariant-loop-i l = eqb l.seen 0 ≡ zero_words l.desk l.a l.i
