-- Demand 2: "In a store we opened, whose bytes only these calls have changed since the last opening, a scan finishes once it has had one
-- look at each table slot and each shelf entry. It has then handed out exactly the records that the accepted inserts, modifies and deletes
-- had left when it began, as they read then, each once. .. A call is refused only when a reason that document 01 or a later request lists
-- for it holds."
use Rattle.std.specs.Prelude.{◌≡◌, true, ℕ, suc, ◌+◌, ◌≤◌, ◌<◌, length}
use Rattle.std.proofs.Math.Option.{Option, none, some}
use mathlib.Core.List.{List, [], map, Memᴰ}
use Rattle.demands.specs.History.{Version, Scan, History, reads, awaits, scan_of}
use Rattle.rules.specs.Passed.{All}
use Rattle.demands.specs.Lists.{Permutation}
use Rattle.demands.specs.Lives.{Opening, table_slots, shelf_entries, Accepted, bytes_after, past}
use Rattle.demands.specs.Machine.{Machine, Within}
use Rattle.demands.specs.Reasons.{reason}
use Rattle.rules.specs.Answers.{Answer, Draw}
use Rattle.rules.specs.Refusals.{Call, refused_as}

-- "It has then handed out exactly the records that .. had left when it began, as they read then, each once."
abbrev pub ExactlyOnce : Scan → Type 0
ExactlyOnce s = Permutation s.handed (map reads s.began)

-- a version that the scan began with and awaits is handed out
abbrev pub Hands : Scan → List ℕ → Type 0
Hands s out = (v : Version) × Memᴰ v s.began × (awaits s v ≡ true) × (out ≡ reads v)

-- what next may answer to a running scan, of T + R looks in all, given a budget
module _ (T R : ℕ) (s : Scan) (budget : ℕ) (out : List ℕ) where
  abbrev pub Goes : Answer → Type 0
  Goes Answer.done = ⊥
  Goes (Answer.begun t) = ⊥
  Goes (Answer.drew (Draw.in_hand looks left)) = Hands s out × (1 ≤ looks) × (looks + left ≡ budget) × (s.looks + looks ≤ T + R)
  Goes (Answer.drew (Draw.paused looks)) = (looks ≡ budget) × (s.looks + looks < T + R)
  Goes (Answer.drew (Draw.finished looks left handed)) = ExactlyOnce s × (handed ≡ length s.handed) × (looks + left ≡ budget) × (s.looks + looks ≡ T + R)
  Goes (Answer.shown s) = ⊥
  Goes (Answer.refused j) = ⊥

abbrev pub Unrefused : Answer → Type 0
Unrefused a = (j : ℕ) → a ≡ Answer.refused j → ⊥

-- what a call gives that no reason refuses; peek, tally and owed read only, and the rule of next says what they answer
module _ (T R : ℕ) (h : History) where
  abbrev pub Going : Option Scan → ℕ → List ℕ → Answer → Type 0
  Going none b o a = ⊥
  Going (some s) b o a = Goes T R s b o a

  unfoldable pub Fulfils : Call → Answer → List ℕ → Type 0
  Fulfils (Call.opening n) a out = a ≡ Answer.done
  Fulfils (Call.change c) a out = a ≡ Answer.done
  Fulfils Call.begin a out = a ≡ Answer.begun (suc h.given)
  Fulfils (Call.next t b o) a out = Going (scan_of h t) b out a
  Fulfils (Call.reading q) a out = Unrefused a

  -- refused exactly for the lowest reason that holds
  abbrev pub Answers : Option ℕ → Call → Answer → List ℕ → Type 0
  Answers (some j) c a out = a ≡ refused_as c j
  Answers none c a out = Fulfils c a out

pub record Demand2 (M : Machine) : Type 0 where
  -- an opening is accepted, over any old bytes, and gives the same bytes whatever stood there
  pub opens : (o : Opening) → Accepted M o
  pub alike : (o p : Opening) → o.n ≡ p.n → table_slots o ≡ table_slots p → shelf_entries o ≡ shelf_entries p → bytes_after M o [] ≡ bytes_after M p []
  -- after any calls every further one is answered as its reasons have it
  pub answers : (o : Opening) (cs : List Call) → All Within cs → (c : Call) → Within c
      → Answers (table_slots o) (shelf_entries o) (past M o cs) (reason o.n (table_slots o) (shelf_entries o) (past M o cs) c) c (M (bytes_after M o cs) c).answer (M (bytes_after M o cs) c).out
