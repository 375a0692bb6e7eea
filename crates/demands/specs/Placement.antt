-- Where versions and scans stand: the slot, the entry and the position that each takes, over any choice of "an empty place, if there is
-- one". The demands do without it.
use Rattle.std.specs.Prelude.{◌≡◌, Bool, true, false, cond, List, [], ◌∷◌, ◌++◌, map, ℕ, suc, ◌+◌, ◌<◌, length, get_or, set, replicate}
use Rattle.std.proofs.Math.Option.{Option, none, some}
use Rattle.demands.specs.History.{Event, Version, version, Scan, History, reads, awaits, awaited, numbered, runs, scan_of, on_done, tells_from, untold}
use Rattle.demands.specs.Lists.{keep}
use Rattle.demands.specs.Lives.{Opening, table_slots, shelf_entries, events, past}
use Rattle.demands.specs.Machine.{Machine}
use Rattle.rules.specs.Answers.{Answer, Draw}
use Rattle.rules.specs.Calls.{first}
use Rattle.rules.specs.Refusals.{Call, Change}

-- which place a newcomer takes, of a row of places as it stands
abbrev pub Taking : Type 0 → Type 0
Taking A = List (Option A) → ℕ

-- the slot of a new version, the entry of a shelved one, the position of a new scan
pub record Choice : Type 0 where
  pub slot : Taking Version
  pub entry : Taking Version
  pub scan : Taking ℕ

-- the choice at a call, by what was told before it: the histories so far, newest first
abbrev pub Placing : Type 0
Placing = List History → Choice

-- "an empty place, if there is one"
abbrev pub IfThereIsOne : {A : Type 0} → Taking A → Type 0
IfThereIsOne {A} take = (l : List (Option A)) (j : ℕ) → j < length l → get_or l j none ≡ none → (take l < length l) × (get_or l (take l) none ≡ none)

pub record TakesEmpty (P : Placing) : Type 0 where
  pub slot : (before : List History) → IfThereIsOne (P before).slot
  pub entry : (before : List History) → IfThereIsOne (P before).entry
  pub scan : (before : List History) → IfThereIsOne (P before).scan

-- document 01's, whatever came before: "the lowest empty slot", "the lowest empty shelf entry", "the lowest position below N with active
-- bit 1"
abbrev pub is_empty : {A : Type 0} → Option A → Bool
is_empty none = true
is_empty (some a) = false

abbrev pub lowest_empty : {A : Type 0} → Taking A
lowest_empty l = first (λ i. is_empty (get_or l i none)) 0 (length l)

abbrev pub lowest_of : Choice
lowest_of = record { slot = lowest_empty; entry = lowest_empty; scan = lowest_empty }

abbrev pub lowest : Placing
lowest before = lowest_of

-- the version in each slot and in each entry, and the ticket at each position
pub record Places : Type 0 where
  pub table : List (Option Version)
  pub shelf : List (Option Version)
  pub positions : List (Option ℕ)

abbrev pub places : List (Option Version) → List (Option Version) → List (Option ℕ) → Places
places tb sh ps = record { table = tb; shelf = sh; positions = ps }

-- the place of the version of number k
abbrev pub bears : ℕ → Option Version → Bool
bears k none = false
bears k (some v) = numbered k v

abbrev pub place_of : List (Option Version) → ℕ → ℕ
place_of l k = first (λ i. bears k (get_or l i none)) 0 (length l)

module _ (C : Choice) where
  -- a version that some scan awaits goes to the shelf as it leaves the table
  abbrev pub shelve : History → List (Option Version) → Option Version → List (Option Version)
  shelve h s none = s
  shelve h s (some v) = cond (awaited h v) (set s (C.entry s) (some v)) s

  abbrev pub put : Places → Version → Places
  put p v = places (set p.table (C.slot p.table) (some v)) p.shelf p.positions

  abbrev pub replace : History → Places → ℕ → Option Version → Places
  replace h p k new = places (set p.table (place_of p.table k) new) (shelve h p.shelf (get_or p.table (place_of p.table k) none)) p.positions

  -- a scan that begins takes a position
  abbrev pub sit : Answer → Places → Places
  sit Answer.done p = p
  sit (Answer.begun t) p = places p.table p.shelf (set p.positions (C.scan p.positions) (some t))
  sit (Answer.drew d) p = p
  sit (Answer.shown s) p = p
  sit (Answer.refused j) p = p

  abbrev pub changed_at : History → Places → Change → Places
  changed_at h p (Change.insert k b) = put p (version k b h.changes)
  changed_at h p (Change.modify k b) = replace h p k (some (version k b h.changes))
  changed_at h p (Change.delete k) = replace h p k none

  -- after a call; with next an entry that no scan awaits any more is freed, and a position whose scan runs no more
  unfoldable pub moves : History → History → Places → Call → Answer → Places
  moves h g p (Call.opening n) a = p
  moves h g p (Call.change c) a = on_done a (changed_at h p c) p
  moves h g p Call.begin a = sit a p
  moves h g p (Call.next t b o) a = places p.table (map (keep (awaited g)) p.shelf) (map (keep (runs g)) p.positions)
  moves h g p (Call.reading q) a = p

module _ (start : History) where
  -- what was told after each call so far, newest first, and at the start
  abbrev pub all_told_from : List Event → List History
  all_told_from [] = start ∷ []
  all_told_from (e ∷ es) = tells_from start (e ∷ es) ∷ all_told_from es

  abbrev pub placed_from : Placing → Places → List Event → Places
  placed_from P p [] = p
  placed_from P p (e ∷ es) = moves (P (all_told_from es)) (tells_from start es) (tells_from start (e ∷ es)) (placed_from P p es) e.call e.answer

unfoldable pub all_told : List Event → List History
all_told es = all_told_from untold es

-- N positions, T slots and R entries, all of them empty
abbrev pub unplaced : ℕ → ℕ → ℕ → Places
unplaced N T R = places (replicate T none) (replicate R none) (replicate N none)

unfoldable pub placed : Placing → ℕ → ℕ → ℕ → List Event → Places
placed P N T R es = placed_from untold P (unplaced N T R) es

-- the running scan at a position
abbrev pub scan_with : History → Option ℕ → Option Scan
scan_with h none = none
scan_with h (some t) = scan_of h t

abbrev pub sitting : History → Places → ℕ → Option Scan
sitting h p i = scan_with h (get_or p.positions i none)

-- where they stand after the opening and the calls
abbrev pub places_after : Machine → Placing → Opening → List Call → Places
places_after M P o cs = placed P o.n (table_slots o) (shelf_entries o) (events M o cs)

abbrev pub stands_at : Machine → Placing → Opening → List Call → ℕ → Option Scan
stands_at M P o cs i = sitting (past M o cs) (places_after M P o cs) i

-- ---- the looks of a scan, place by place

-- "table first, then shelf"
abbrev pub row : Places → List (Option Version)
row p = p.table ++ p.shelf

abbrev pub due : Scan → Option Version → Bool
due s none = false
due s (some v) = awaits s v

-- the next n places hold nothing that the scan awaits
abbrev pub Passes : List (Option Version) → Scan → ℕ → Type 0
Passes l s n = (i : ℕ) → i < n → due s (get_or l (s.looks + i) none) ≡ false

-- the place after n more holds an awaited version, which reads so
abbrev pub Finds : List (Option Version) → Scan → ℕ → List ℕ → Type 0
Finds l s n bytes = (v : Version) × (get_or l (s.looks + n) none ≡ some v) × (awaits s v ≡ true) × (bytes ≡ reads v)

-- the looks of an answer are the places passed, up to the first awaited version
abbrev pub LooksRight : List (Option Version) → Scan → List ℕ → Answer → Type 0
LooksRight l s o Answer.done = Unit
LooksRight l s o (Answer.begun t) = Unit
LooksRight l s o (Answer.drew (Draw.in_hand looks left)) = (n : ℕ) × (looks ≡ suc n) × Passes l s n × Finds l s n o
LooksRight l s o (Answer.drew (Draw.paused looks)) = Passes l s looks
LooksRight l s o (Answer.drew (Draw.finished looks left handed)) = Passes l s looks
LooksRight l s o (Answer.shown x) = Unit
LooksRight l s o (Answer.refused j) = Unit
