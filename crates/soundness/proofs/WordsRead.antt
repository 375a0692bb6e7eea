-- The OR of the words from a up to i.
use mathlib.Core.Path.{◌≡◌, refl, ◌∙◌}
use mathlib.Core.List.{List}
use Prim.Native.Nat.{ℕ, ◌+◌, ◌*◌, ◌≤◌}
use lib.Bits.{bit_or}
use lib.Dec.{eqb}
use Rattle.rules.specs.Bytes.{u64_at}
use Rattle.soundness.specs.Words.{zero_word, zero_words}
use Rattle.soundness.proofs.Every.{every_step}
use Rattle.soundness.proofs.Zeros.{or-zero}

pub words_more : (d : List ℕ) (a i seen : ℕ) → a ≤ i → eqb seen 0 ≡ zero_words d a i → eqb (bit_or seen (u64_at d (i * 8))) 0 ≡ zero_words d a (i + 1)
words_more d a i seen h e = or-zero seen (u64_at d (i * 8)) ∙ rw (e, every_step (zero_word d) a i h) refl
