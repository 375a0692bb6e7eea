-- What a C host reads off the one number that comes back: the answer itself.
use Rattle.std.specs.Prelude.{◌≡◌, true, cond, [], ℕ, ◌-◌, ◌/◌, ◌%◌, ◌<◌, eqb}
use Rattle.rules.specs.Passed.{Well, LentBytes}
use Rattle.demands.specs.Machine.{Machine, exported}
use Rattle.rules.specs.Answers.{Answer, Draw, Shown, packed}
use Rattle.rules.specs.Memory.{Lent}
use Rattle.rules.specs.Refusals.{Call, Reading}

-- of a value: "looks + 2,097,152 × handed", "records + 32,768 × entries"
abbrev pub looks_of : ℕ → ℕ
looks_of v = v % 2097152

abbrev pub handed_of : ℕ → ℕ
handed_of v = v / 2097152

abbrev pub records_of : ℕ → ℕ
records_of v = v % 32768

abbrev pub entries_of : ℕ → ℕ
entries_of v = v / 32768

-- 0, or a refusal by its number
abbrev pub unless_refused : ℕ → Answer → Answer
unless_refused j a = cond (eqb j 0) a (Answer.refused j)

-- the answer numbered j, of value v, to a call; a host knows the budget that it gave, and calls no peek
unfoldable pub answer_as : Call → ℕ → ℕ → Answer
answer_as (Call.opening n) j v = unless_refused j Answer.done
answer_as (Call.change c) j v = unless_refused j Answer.done
answer_as Call.begin j v = unless_refused j (Answer.begun v)
answer_as (Call.next t b o) j v =
    cond (eqb j 100) (Answer.drew (Draw.paused (looks_of v)))
    (cond (eqb j 101) (Answer.drew (Draw.finished (looks_of v) (b - looks_of v) (handed_of v)))
    (unless_refused j (Answer.drew (Draw.in_hand (looks_of v) (b - looks_of v)))))
answer_as (Call.reading (Reading.peek t)) j v = Answer.shown (Shown.part [])
answer_as (Call.reading Reading.tally) j v = unless_refused j (Answer.shown (Shown.counted (records_of v) (entries_of v)))
answer_as (Call.reading (Reading.owed t)) j v = unless_refused j (Answer.shown (Shown.owing v))

-- "answer + 256 × value"
abbrev pub unpacked : Call → ℕ → Answer
unpacked c n = answer_as c (n % 256) (n / 256)

-- of any machine; it follows from demand 1
pub record NumberTells (M : Machine) : Type 0 where
  -- "one 64-bit number"
  pub of64 : (l : Lent) (c : Call) → exported c ≡ true → LentBytes l → Well c → packed (M l c).answer < 18446744073709551616
  -- from which the answer is read off
  pub tells : (l : Lent) (c : Call) → exported c ≡ true → LentBytes l → Well c → unpacked c (packed (M l c).answer) ≡ (M l c).answer
  -- so that two answers of one call, on whatever bytes, never come back as one number
  pub apart : (l m : Lent) (c : Call) → exported c ≡ true → LentBytes l → LentBytes m → Well c
      → packed (M l c).answer ≡ packed (M m c).answer → (M l c).answer ≡ (M m c).answer
