-- The rule of next, and what peek, tally and owed answer: "The number of looks in an answer equals the looks of this rule." It stands
-- apart from demand 2, which says nothing of where a version is put.
use Rattle.std.specs.Prelude.{◌≡◌, cond, List, [], ◌⊎◌, ℕ, ◌+◌, ◌-◌, ◌≤◌, ltb, length}
use Rattle.std.proofs.Math.Option.{Option, none, some}
use Rattle.demands.specs.History.{Version, Scan, History, needed, waiting, scan_of}
use Rattle.rules.specs.Passed.{All, Well, LentBytes}
use Rattle.demands.specs.Lives.{Opening, table_slots, shelf_entries, bytes_after, past}
use Rattle.demands.specs.Machine.{Machine, Within, slots}
use Rattle.demands.specs.Placement.{Placing, places_after, row, Passes, Finds, LooksRight}
use Rattle.demands.specs.Reasons.{reason}
use Rattle.rules.specs.Answers.{Answer, Draw, Shown}
use Rattle.rules.specs.Memory.{Lent}
use Rattle.rules.specs.Refusals.{Call, Reading}

-- "the record that next with unbounded budget would hand out. In all other cases the part is empty."
abbrev pub Peeks : List (Option Version) → Scan → ℕ → List ℕ → Type 0
Peeks l s end bytes = ((n : ℕ) × Passes l s n × Finds l s n bytes) ⊎ (Passes l s (end - s.looks) × (bytes ≡ []))

-- what is still to come; past its table walk a scan is told the whole table too
abbrev pub still_to_come : ℕ → History → Scan → ℕ
still_to_come T h s = cond (ltb s.looks T) (length (waiting s)) (length h.live + length (waiting s))

module _ (M : Machine) (o : Opening) (cs : List Call) where
  abbrev pub answer : Call → Answer
  answer c = (M (bytes_after M o cs) c).answer

  abbrev pub hand_out : Call → List ℕ
  hand_out c = (M (bytes_after M o cs) c).out

  -- no reason refuses the call
  abbrev pub Granted : Call → Type 0
  Granted c = reason o.n (table_slots o) (shelf_entries o) (past M o cs) c ≡ none

  abbrev pub in_order : Placing → List (Option Version)
  in_order P = row (places_after M P o cs)

pub record RuleOfNext (M : Machine) (P : Placing) : Type 0 where
  pub looks : (o : Opening) (cs : List Call) → All Within cs → (t b : ℕ) (out : List ℕ) → Within (Call.next t b out)
      → Granted M o cs (Call.next t b out)
      → (s : Scan) → scan_of (past M o cs) t ≡ some s
      → LooksRight (in_order M o cs P) s (hand_out M o cs (Call.next t b out)) (answer M o cs (Call.next t b out))
  pub peeks : (o : Opening) (cs : List Call) → All Within cs → (t : ℕ) → Within (Call.reading (Reading.peek t))
      → Granted M o cs (Call.reading (Reading.peek t))
      → (s : Scan) → scan_of (past M o cs) t ≡ some s
      → (part : List ℕ) × (answer M o cs (Call.reading (Reading.peek t)) ≡ Answer.shown (Shown.part part)) × Peeks (in_order M o cs P) s (table_slots o + shelf_entries o) part
  pub tallies : (o : Opening) (cs : List Call) → All Within cs
      → answer M o cs (Call.reading Reading.tally) ≡ Answer.shown (Shown.counted (length (past M o cs).live) (length (needed (past M o cs))))
  pub owes : (o : Opening) (cs : List Call) → All Within cs → (t : ℕ) → Within (Call.reading (Reading.owed t))
      → Granted M o cs (Call.reading (Reading.owed t))
      → (s : Scan) → scan_of (past M o cs) t ≡ some s
      → answer M o cs (Call.reading (Reading.owed t)) ≡ Answer.shown (Shown.owing (still_to_come (table_slots o) (past M o cs) s))

-- what next hands out: the record in hand, or nothing
abbrev pub brought : Answer → List ℕ → List ℕ
brought Answer.done o = []
brought (Answer.begun t) o = []
brought (Answer.drew (Draw.in_hand looks left)) o = o
brought (Answer.drew (Draw.paused looks)) o = []
brought (Answer.drew (Draw.finished looks left handed)) o = []
brought (Answer.shown s) o = []
brought (Answer.refused k) o = []

-- peek is "the record that next with unbounded budget would hand out", on any lent bytes: no budget over T + R is spent
unfoldable pub PeekIsNext : Machine → Type 0
PeekIsNext M =
    (l : Lent) → LentBytes l → (t b : ℕ) (o : List ℕ) → Well (Call.next t b o) → length o ≡ 56 → slots l.table + slots l.shelf ≤ b
    → (M l (Call.reading (Reading.peek t))).answer ≡ Answer.shown (Shown.part (brought (M l (Call.next t b o)).answer (M l (Call.next t b o)).out))
