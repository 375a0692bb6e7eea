-- The rule of the masks' high bits.
use Rattle.std.specs.Prelude.{Bool, ◌&&◌, ℕ, eqb}
use Rattle.rules.specs.Masks.{Masks, ones, from}

-- "bits from N up 0 in the stable mask and 1 in both active masks"
abbrev pub high_bits : ℕ → Masks → Bool
high_bits n m = eqb (from n m.stable) 0 && (eqb (from n m.active) (from n (ones 64)) && eqb (from n m.local) (from n (ones 64)))
