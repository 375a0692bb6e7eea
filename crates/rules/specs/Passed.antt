-- What a host can hand over with a call: numbers of 32 bits, and bytes.
use Rattle.std.specs.Prelude.{◌≡◌, true, List, [], ◌∷◌, ℕ, ◌<◌, length}
use Rattle.rules.specs.Memory.{Lent}
use Rattle.rules.specs.Refusals.{Call, Change, Reading, lengths_right}

-- each of a list
abbrev pub All : {A : Type 0} → (A → Type 0) → List A → Type 0
All P [] = Unit
All P (a ∷ l) = P a × All P l

abbrev pub Byte : ℕ → Type 0
Byte x = x < 256

-- "Record numbers, tickets, budgets and N are passed as 32-bit numbers."
abbrev pub Passed : ℕ → Type 0
Passed x = x < 4294967296

abbrev pub Well : Call → Type 0
Well (Call.opening n) = Passed n
Well (Call.change (Change.insert k b)) = Passed k × All Byte b
Well (Call.change (Change.modify k b)) = Passed k × All Byte b
Well (Call.change (Change.delete k)) = Passed k
Well Call.begin = Unit
Well (Call.next ticket b o) = Passed ticket × Passed b × All Byte o
Well (Call.reading (Reading.peek ticket)) = Passed ticket
Well (Call.reading Reading.tally) = Unit
Well (Call.reading (Reading.owed ticket)) = Passed ticket

pub record LentBytes (l : Lent) : Type 0 where
  pub desk : All Byte l.desk
  pub table : All Byte l.table
  pub shelf : All Byte l.shelf

-- buffers whose lengths document 01 takes
abbrev pub LengthsRight : Lent → Type 0
LengthsRight l = lengths_right (length l.desk) (length l.table) (length l.shelf) ≡ true
