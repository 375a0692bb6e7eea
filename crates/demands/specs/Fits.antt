-- What a call can come back with, on any lent bytes: an answer of its own kind, and in its ranges. A store has at most 16,384 slots and
-- 1,048,576 entries, so that no scan makes more than 1,064,960 looks.
use Rattle.std.specs.Prelude.{◌≡◌, List, [], ◌⊎◌, ℕ, ◌+◌, ◌≤◌, ◌<◌, length}
use Rattle.rules.specs.Answers.{Answer, Draw, Shown}
use Rattle.rules.specs.Refusals.{Call, Reading}

-- "Refusals 1 to 11"
abbrev pub OfRefused : Answer → Type 0
OfRefused a = (j : ℕ) × (1 ≤ j) × (j ≤ 11) × (a ≡ Answer.refused j)

abbrev pub OfDone : Answer → Type 0
OfDone a = a ≡ Answer.done

-- "ticket (0 means no scan)", of 32 bits
abbrev pub OfBegun : Answer → Type 0
OfBegun a = (t : ℕ) × (1 ≤ t) × (t ≤ 4294967295) × (a ≡ Answer.begun t)

-- of next with a budget: the looks and what is left come to it
abbrev pub OfInHand : ℕ → Answer → Type 0
OfInHand b a = (looks : ℕ) × (left : ℕ) × (1 ≤ looks) × (looks ≤ 1064960) × (looks + left ≡ b) × (a ≡ Answer.drew (Draw.in_hand looks left))

abbrev pub OfPaused : ℕ → Answer → Type 0
OfPaused b a = (b < 1064960) × (a ≡ Answer.drew (Draw.paused b))

abbrev pub OfFinished : ℕ → Answer → Type 0
OfFinished b a =
    (looks : ℕ) × (left : ℕ) × (handed : ℕ) × (looks ≤ 1064960) × (handed ≤ 1064960) × (looks + left ≡ b) × (a ≡ Answer.drew (Draw.finished looks left handed))

abbrev pub OfNext : ℕ → Answer → Type 0
OfNext b a = OfInHand b a ⊎ (OfPaused b a ⊎ OfFinished b a)

-- "56 bytes of one of them, an empty part otherwise"
abbrev pub OfPart : Answer → Type 0
OfPart a = (bytes : List ℕ) × ((bytes ≡ []) ⊎ (length bytes ≡ 56)) × (a ≡ Answer.shown (Shown.part bytes))

abbrev pub OfCounted : Answer → Type 0
OfCounted a = (records : ℕ) × (entries : ℕ) × (records ≤ 16384) × (entries ≤ 1048576) × (a ≡ Answer.shown (Shown.counted records entries))

abbrev pub OfOwing : Answer → Type 0
OfOwing a = (count : ℕ) × (count ≤ 1064960) × (a ≡ Answer.shown (Shown.owing count))

unfoldable pub Fits : Call → Answer → Type 0
Fits (Call.opening n) a = OfDone a ⊎ OfRefused a
Fits (Call.change c) a = OfDone a ⊎ OfRefused a
Fits Call.begin a = OfBegun a ⊎ OfRefused a
Fits (Call.next t b o) a = OfNext b a ⊎ OfRefused a
Fits (Call.reading (Reading.peek t)) a = OfPart a
Fits (Call.reading Reading.tally) a = OfCounted a ⊎ OfRefused a
Fits (Call.reading (Reading.owed t)) a = OfOwing a ⊎ OfRefused a
