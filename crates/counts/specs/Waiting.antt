-- A count as it stands when the slots below one are counted.
use Rattle.std.specs.Prelude.{List, ◌≡◌, ℕ, ◌+◌, ◌-◌, ◌/◌, length}
use Rattle.rules.specs.Calls.{count}
use Rattle.rules.specs.Memory.{each, slot_at}
use Rattle.joins.specs.Search.{waiting}

-- the versions in the slots of l from i on that the scan at p waits for
unfoldable pub waiting_from : ℕ → ℕ → List ℕ → ℕ → ℕ
waiting_from flip p l i = count (waiting flip p) (each (slot_at l) i (length l / 64 - i))

-- n of them stand from slot i on before slot j
abbrev pub Counted : ℕ → ℕ → List ℕ → ℕ → ℕ → ℕ → Type 0
Counted flip p l i j n = n + waiting_from flip p l j ≡ waiting_from flip p l i
