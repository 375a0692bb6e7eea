-- A machine that answers calls on lent bytes, and the calls that can come within the life of a store.
use Rattle.std.specs.Prelude.{◌≡◌, Bool, true, false, List, ℕ, ◌/◌, length}
use Rattle.rules.specs.Passed.{Passed, Well}
use Rattle.rules.specs.Memory.{Lent}
use Rattle.rules.specs.Refusals.{Call, Reading, Reply}
use Rattle.rules.specs.Sound.{n_in_range}

-- For all lent bytes and every call: the answer, the bytes after it and the hand-out buffer after it. It remembers nothing else, and it
-- is total: a call comes back.
abbrev pub Machine : Type 0
Machine = Lent → Call → Reply

-- how many slots, or entries, a buffer has
abbrev pub slots : List ℕ → ℕ
slots buffer = length buffer / 64

-- an opening that document 01 accepts begins a store's life; what comes within it is every other well-formed call
abbrev pub Within : Call → Type 0
Within (Call.opening n) = Passed n × (n_in_range n ≡ false)
Within (Call.change c) = Well (Call.change c)
Within Call.begin = Well Call.begin
Within (Call.next t b o) = Well (Call.next t b o)
Within (Call.reading q) = Well (Call.reading q)

-- a call of the C host; "Peek is for Rattle callers only", and its refusal is an empty part, which says no number
abbrev pub exported : Call → Bool
exported (Call.opening n) = true
exported (Call.change c) = true
exported Call.begin = true
exported (Call.next t b o) = true
exported (Call.reading (Reading.peek t)) = false
exported (Call.reading Reading.tally) = true
exported (Call.reading (Reading.owed t)) = true
