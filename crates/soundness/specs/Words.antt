-- The desk as words of 64 bits.
use Rattle.std.specs.Prelude.{Bool, ◌&&◌, List, ℕ, ◌+◌, ◌*◌, ◌-◌, eqb}
use Rattle.rules.specs.Bytes.{u64_at}
use Rattle.soundness.specs.Every.{every}

-- word i is zero
abbrev pub zero_word : List ℕ → ℕ → Bool
zero_word d i = eqb (u64_at d (i * 8)) 0

-- the words from a up to b are
abbrev pub zero_words : List ℕ → ℕ → ℕ → Bool
zero_words d a b = every (zero_word d) a (b - a)

-- both words of the card of position i are
abbrev pub zero_card : List ℕ → ℕ → Bool
zero_card d i = zero_word d (8 + i * 2) && zero_word d (8 + i * 2 + 1)
