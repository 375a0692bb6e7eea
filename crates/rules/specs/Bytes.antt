-- Numbers in lent bytes.
use Rattle.std.specs.Prelude.{List, [], ◌∷◌, ℕ, zero, suc, ◌+◌, ◌*◌, ◌/◌, ◌%◌, take, drop}

-- "All numbers are little-endian": the number that bytes spell, lowest byte first
unfoldable pub le : List ℕ → ℕ
le [] = 0
le (x ∷ xs) = x + 256 * le xs

-- the n bytes that spell v
unfoldable pub to_le : ℕ → ℕ → List ℕ
to_le zero v = []
to_le (suc n) v = v % 256 ∷ to_le n (v / 256)

-- the n bytes from offset at on
unfoldable pub field : ℕ → ℕ → List ℕ → List ℕ
field n at l = take n (drop at l)

-- the numbers of 4 and of 8 bytes at an offset
unfoldable pub u32_at : List ℕ → ℕ → ℕ
u32_at l at = le (field 4 at l)

unfoldable pub u64_at : List ℕ → ℕ → ℕ
u64_at l at = le (field 8 at l)
