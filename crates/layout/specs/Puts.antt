-- What a write leaves in a buffer.
use Rattle.std.specs.Prelude.{List, ◌++◌, ℕ, ◌+◌, length, take, drop}
use Rattle.rules.specs.Bytes.{to_le}

-- l with vs written from offset at on
unfoldable pub put : List ℕ → ℕ → List ℕ → List ℕ
put l at vs = take at l ++ (vs ++ drop (at + length vs) l)

-- a number of 4 or 8 bytes written at an offset
unfoldable pub put32 : List ℕ → ℕ → ℕ → List ℕ
put32 l at v = put l at (to_le 4 v)

unfoldable pub put64 : List ℕ → ℕ → ℕ → List ℕ
put64 l at v = put l at (to_le 8 v)
