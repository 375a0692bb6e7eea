-- The life of a store: from one accepted opening, over any old bytes, through any calls that were lent all of it.
use Rattle.std.specs.Prelude.{◌≡◌, true, List, [], ◌∷◌, ℕ}
use Rattle.demands.specs.History.{Event, History, tells}
use Rattle.rules.specs.Passed.{LentBytes, LengthsRight}
use Rattle.demands.specs.Machine.{Machine, slots}
use Rattle.rules.specs.Answers.{Answer}
use Rattle.rules.specs.Memory.{Lent}
use Rattle.rules.specs.Refusals.{Call}
use Rattle.rules.specs.Sound.{n_in_range}

-- what is lent to an opening, and its N
pub record Opening : Type 0 where
  pub old : Lent
  pub n : ℕ
  pub bytes : LentBytes old
  pub lengths : LengthsRight old
  pub in_range : n_in_range n ≡ true

-- T and R of the store
abbrev pub table_slots : Opening → ℕ
table_slots o = slots o.old.table

abbrev pub shelf_entries : Opening → ℕ
shelf_entries o = slots o.old.shelf

module _ (M : Machine) (o : Opening) where
  abbrev pub Accepted : Type 0
  Accepted = (M o.old (Call.opening o.n)).answer ≡ Answer.done

  -- the bytes after the opening and the calls, newest first
  unfoldable pub bytes_after : List Call → Lent
  bytes_after [] = (M o.old (Call.opening o.n)).after
  bytes_after (c ∷ cs) = (M (bytes_after cs) c).after

  -- the list of calls and answers, newest first
  unfoldable pub events : List Call → List Event
  events [] = []
  events (c ∷ cs) = record { call = c; answer = (M (bytes_after cs) c).answer; out = (M (bytes_after cs) c).out } ∷ events cs

  abbrev pub past : List Call → History
  past cs = tells (events cs)
