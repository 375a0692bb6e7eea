-- "Where several apply, the lowest number is answered": of the lines that hold, on any lent bytes, and of the reasons that hold, in a life.
use Rattle.std.specs.Prelude.{◌≡◌, true, ◌↔◌, ℕ, ◌≤◌}
use mathlib.Core.List.{List, Memᴰ}
use Rattle.rules.specs.Passed.{All, Well, LentBytes}
use Rattle.demands.specs.Lives.{Opening, table_slots, shelf_entries, bytes_after, past}
use Rattle.demands.specs.Machine.{Machine, Within, exported}
use Rattle.demands.specs.Reasons.{reasons}
use Rattle.rules.specs.Answers.{Answer}
use Rattle.rules.specs.Memory.{Lent}
use Rattle.rules.specs.Refusals.{Call, Refusals, refusals}

-- the number of a test that holds, where none of a lower number does; the order of the tests is no matter
pub record Lowest (lines : Refusals) (j : ℕ) : Type 0 where
  pub holds : Memᴰ (true, j) lines
  pub least : (i : ℕ) → Memᴰ (true, i) lines → j ≤ i

-- of any machine; it follows from demands 1 and 2
pub record LowestAnswered (M : Machine) : Type 0 where
  pub anywhere : (l : Lent) (c : Call) → exported c ≡ true → LentBytes l → Well c → (j : ℕ)
      → ((M l c).answer ≡ Answer.refused j) ↔ Lowest (refusals l c) j
  pub in_life : (o : Opening) (cs : List Call) → All Within cs → (c : Call) → exported c ≡ true → Within c → (j : ℕ)
      → ((M (bytes_after M o cs) c).answer ≡ Answer.refused j) ↔ Lowest (reasons o.n (table_slots o) (shelf_entries o) (past M o cs) c) j
