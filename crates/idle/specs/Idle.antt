-- "These idle versions have to be caught": machines by what they do, whatever else they do.
use Rattle.std.specs.Prelude.{◌≡◌, List, ◌++◌, ℕ, ◌+◌, ◌≤◌, replicate}
use Rattle.std.proofs.Math.Option.{Option, none, some}
use Rattle.demands.specs.DemandOne.{SameLengths}
use Rattle.demands.specs.History.{Scan, History, scan_of}
use Rattle.rules.specs.Passed.{All, Well, LentBytes}
use Rattle.demands.specs.Lives.{Opening, bytes_after, past}
use Rattle.demands.specs.Machine.{Machine, Within}
use Rattle.rules.specs.Answers.{Answer, Draw}
use Rattle.rules.specs.Calls.{slot_in, used}
use Rattle.rules.specs.Memory.{Lent, slots_of}
use Rattle.rules.specs.Refusals.{Call, Change, refused_as, called}

-- a moment in the life of a store: after its opening and some calls
pub record Moment : Type 0 where
  pub opening : Opening
  pub calls : List Call
  pub within : All Within calls

-- the calls that have come since, newest first
abbrev pub WithinSince : Moment → List Call → Type 0
WithinSince m ds = All Within (ds ++ m.calls)

module _ (M : Machine) (m : Moment) where
  abbrev pub bytes_then : Lent
  bytes_then = bytes_after M m.opening m.calls

  abbrev pub past_then : History
  past_then = past M m.opening m.calls

  abbrev pub bytes_since : List Call → Lent
  bytes_since ds = bytes_after M m.opening (ds ++ m.calls)

-- "a store that refuses all calls": once it is open, at some moment, whatever is called is refused, by any numbers
pub record RefusesAll (M : Machine) : Type 0 where
  pub moment : Moment
  pub refuses : (c : Call) → Within c → (k : ℕ) × ((M (bytes_then M moment) c).answer ≡ refused_as c k)

-- a hand-out buffer
unfoldable pub buffer : List ℕ
buffer = replicate 56 0

-- "one that answers 100 for ever", from the start or from some moment: to one running scan, whatever calls come between
pub record PausesForEver (M : Machine) : Type 0 where
  pub moment : Moment
  pub ticket : ℕ
  pub scan : Scan
  pub running : scan_of (past_then M moment) ticket ≡ some scan
  pub passable : Within (Call.next ticket 1 buffer)
  pub pauses : (ds : List Call) → WithinSince moment ds
      → (looks : ℕ) × ((M (bytes_since M moment ds) (Call.next ticket 1 buffer)).answer ≡ Answer.drew (Draw.paused looks))

-- "one that leaves every byte", from its opening or from some moment, whatever is called
pub record LeavesEveryByte (M : Machine) : Type 0 where
  pub moment : Moment
  pub leaves : (ds : List Call) → WithinSince moment ds → bytes_since M moment ds ≡ bytes_then M moment

-- "a store .. that never starts a scan": once it is open, no begin is ever answered by a ticket
pub record NeverStarts (M : Machine) : Type 0 where
  pub opening : Opening
  pub never : (cs : List Call) → All Within cs → (t : ℕ) → (M (bytes_after M opening cs) Call.begin).answer ≡ Answer.begun t → ⊥

-- "one with invented looks or handed counts": some answer is not document 01's
pub record Invents (M : Machine) : Type 0 where
  pub moment : Moment
  pub call : Call
  pub passable : Within call
  pub otherwise : (M (bytes_then M moment) call).answer ≡ (called (bytes_then called moment) call).answer → ⊥

-- ---- "one that shelves a version at the first change only", of the store or of a record: either leaves the shelf at the change of a
-- record that has a version there

-- a version of record k is on the shelf
abbrev pub OnShelf : Lent → ℕ → Type 0
OnShelf l k = (1 ≤ k) × ((i : ℕ) × ((slot_in (slots_of l.shelf) i).number ≡ k))

abbrev pub ShelvesOnce : Machine → Type 0
ShelvesOnce M = (l : Lent) (k : ℕ) (b : List ℕ) → OnShelf l k → (M l (Call.change (Change.modify k b))).after.shelf ≡ l.shelf

-- a change of record k: delete, or modify with a body
abbrev pub change : ℕ → Option (List ℕ) → Call
change k none = Call.change (Change.delete k)
change k (some b) = Call.change (Change.modify k b)

abbrev pub Changes : Call → Type 0
Changes (Call.opening n) = ⊥
Changes (Call.change (Change.insert k b)) = ⊥
Changes (Call.change (Change.modify k b)) = Unit
Changes (Call.change (Change.delete k)) = Unit
Changes Call.begin = ⊥
Changes (Call.next t b o) = ⊥
Changes (Call.reading q) = ⊥

-- a change that finds an entry in use
abbrev pub Later : Lent → Call → Type 0
Later l c = Changes c × (1 ≤ used (slots_of l.shelf))

-- the same, and document 01's at every other call: what a later change answers, what it puts on desk and table, and what it does with
-- the shelf where the record has no version there, is left open
pub record ShelvesFirstOnly (M : Machine) : Type 0 where
  pub otherwise : (l : Lent) (c : Call) → LentBytes l → Well c → (Later l c → ⊥) → M l c ≡ called l c
  pub leaves : (l : Lent) (k : ℕ) (b : Option (List ℕ)) → LentBytes l → Well (change k b) → OnShelf l k → (M l (change k b)).after.shelf ≡ l.shelf
  pub bytes : (l : Lent) (k : ℕ) (b : Option (List ℕ)) → LentBytes l → Well (change k b) → LentBytes (M l (change k b)).after
  pub lengths : (l : Lent) (k : ℕ) (b : Option (List ℕ)) → LentBytes l → Well (change k b) → SameLengths l (M l (change k b)).after

-- ---- "Shelving the version .. once for each scan": some change puts more than one entry to use
pub record ShelvesForEach (M : Machine) : Type 0 where
  pub moment : Moment
  pub number : ℕ
  pub body : Option (List ℕ)
  pub passable : Within (change number body)
  pub more : 2 + used (slots_of (bytes_then M moment).shelf) ≤ used (slots_of (M (bytes_then M moment) (change number body)).after.shelf)
