-- "a scan finishes once it has had one look at each table slot and each shelf entry": whatever comes between, a scan that is given more
-- calls of next than it has places left is answered finished by one of them.
use Rattle.std.specs.Prelude.{◌≡◌, Bool, false, ◌&&◌, List, [], ◌∷◌, ◌++◌, ◌⊎◌, ℕ, ◌+◌, ◌<◌, eqb, leb, length}
use Rattle.std.proofs.Math.Option.{some}
use Rattle.demands.specs.History.{Scan, scan_of}
use Rattle.rules.specs.Passed.{All}
use Rattle.demands.specs.Lives.{Opening, table_slots, shelf_entries, bytes_after, past}
use Rattle.demands.specs.Machine.{Machine, Within}
use Rattle.demands.specs.Masks.{one_if}
use Rattle.rules.specs.Answers.{Answer, Draw}
use Rattle.rules.specs.Refusals.{Call}

-- a call of next to ticket t with a budget, and a hand-out buffer that is not refused
abbrev pub asks : ℕ → Call → Bool
asks t (Call.opening n) = false
asks t (Call.change c) = false
asks t Call.begin = false
asks t (Call.next u b o) = eqb u t && (leb 1 b && eqb (length o) 56)
asks t (Call.reading q) = false

abbrev pub asked : ℕ → List Call → ℕ
asked t [] = 0
asked t (c ∷ cs) = one_if (asks t c) + asked t cs

-- an answer of finished to ticket t
abbrev pub Finished : ℕ → Call → Answer → Type 0
Finished t (Call.opening n) a = ⊥
Finished t (Call.change c) a = ⊥
Finished t Call.begin a = ⊥
Finished t (Call.next u b o) a = (u ≡ t) × ((looks : ℕ) × (left : ℕ) × (handed : ℕ) × (a ≡ Answer.drew (Draw.finished looks left handed)))
Finished t (Call.reading q) a = ⊥

module _ (M : Machine) (o : Opening) (cs : List Call) where
  -- by one of the calls ds that came after cs
  abbrev pub FinishedBy : ℕ → List Call → Type 0
  FinishedBy t [] = ⊥
  FinishedBy t (d ∷ ds) = Finished t d (M (bytes_after M o (ds ++ cs)) d).answer ⊎ FinishedBy t ds

unfoldable pub Finishing : Machine → Type 0
Finishing M =
    (o : Opening) (cs ds : List Call) → All Within (ds ++ cs) → (t : ℕ) (s : Scan) → scan_of (past M o cs) t ≡ some s
    → table_slots o + shelf_entries o < s.looks + asked t ds → FinishedBy M o cs t ds
