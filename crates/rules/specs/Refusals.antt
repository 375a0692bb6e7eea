-- A call as the host makes it: its refusals in the order of the test, its effect, and every byte after it.
use Rattle.std.specs.Prelude.{Bool, true, false, not, ◌&&◌, ◌||◌, List, [], ◌∷◌, ℕ, ◌+◌, ◌/◌, ◌%◌, ltb, leb, eqb, length, get_or}
use Rattle.std.proofs.Math.Option.{Option, none, some}
use Rattle.rules.specs.Answers.{Answer, Shown, done, begun, shown, refused, packed}
use Rattle.rules.specs.Calls.{bearing, empty_slot, shelf_entry, free_position, position_of, opened, inserted, unawaited, changed, given, used, owed_by}
use Rattle.rules.specs.Memory.{Lent, Store, T, R, read, written}
use Rattle.rules.specs.Next.{Told, told, walk, peeked}
use Rattle.rules.specs.Sound.{sound, n_in_range}

-- the calls that change records
pub data Change : Type 0 where
  insert : (number : ℕ) (body : List ℕ) → Change
  modify : (number : ℕ) (body : List ℕ) → Change
  delete : (number : ℕ) → Change

-- the calls that read only
pub data Reading : Type 0 where
  peek : (ticket : ℕ) → Reading
  tally : Reading
  owed : (ticket : ℕ) → Reading

pub data Call : Type 0 where
  opening : (n : ℕ) → Call
  change : Change → Call
  begin : Call
  next : (ticket budget : ℕ) (out : List ℕ) → Call
  reading : Reading → Call

-- ---- line 1: lengths

-- "table or shelf not whole slots or outside its range"
abbrev pub slots_right : ℕ → ℕ → Bool
slots_right bytes most = eqb (bytes % 64) 0 && (leb 1 (bytes / 64) && leb (bytes / 64) most)

-- "desk not 1,088"; "T from 1 to 16,384"; "R from 1 to 1,048,576"
unfoldable pub lengths_right : ℕ → ℕ → ℕ → Bool
lengths_right d t s = eqb d 1088 && (slots_right t 16384 && slots_right s 1048576)

-- "body not 52; hand-out buffer not 56"
abbrev pub body_right : Change → Bool
body_right (Change.insert k b) = eqb (length b) 52
body_right (Change.modify k b) = eqb (length b) 52
body_right (Change.delete k) = true

unfoldable pub own_right : Call → Bool
own_right (Call.opening n) = true
own_right (Call.change c) = body_right c
own_right Call.begin = true
own_right (Call.next ticket b o) = eqb (length o) 56
own_right (Call.reading r) = true

abbrev pub all_right : Lent → Call → Bool
all_right l c = own_right c && lengths_right (length l.desk) (length l.table) (length l.shelf)

-- ---- the refusals: tests in their order, each with its number

abbrev pub Refusals : Type 0
Refusals = List (Bool × ℕ)

-- "Where several apply, the lowest number is answered"
unfoldable pub first_of : Refusals → Option ℕ
first_of [] = none
first_of (line ∷ lines) = elim line.0 [ true ↦ some line.1 | false ↦ first_of lines ]

-- the kinds that a change may bear: "1 bound policy, 2 written quote, 3 spoken quote"
abbrev pub kind_right : List ℕ → Bool
kind_right b = leb 1 (get_or b 4 0) && leb (get_or b 4 0) 3

abbrev pub there : Store → ℕ → Bool
there S k = ltb (bearing S.table k) (T S)

-- "m has a 0 bit and no shelf entry is empty"
abbrev pub no_room : Store → ℕ → Bool
no_room S k = not (unawaited S (bearing S.table k)) && not (ltb (shelf_entry S) (R S))

-- "ticket 0, or on no card"
abbrev pub no_scan : Store → ℕ → Bool
no_scan S ticket = eqb ticket 0 || not (ltb (position_of S ticket) 64)

-- lines 3 to 8
abbrev pub change_refusals : Store → Change → Refusals
change_refusals S (Change.insert k b) = (eqb k 0, 3) ∷ (not (kind_right b), 4) ∷ (there S k, 5) ∷ (not (ltb (empty_slot S.table) (T S)), 7) ∷ []
change_refusals S (Change.modify k b) = (eqb k 0, 3) ∷ (not (kind_right b), 4) ∷ (not (there S k), 6) ∷ (no_room S k, 8) ∷ []
change_refusals S (Change.delete k) = (eqb k 0, 3) ∷ (not (there S k), 6) ∷ (no_room S k, 8) ∷ []

abbrev pub reading_refusals : Store → Reading → Refusals
reading_refusals S (Reading.peek ticket) = (no_scan S ticket, 10) ∷ []
reading_refusals S Reading.tally = []
reading_refusals S (Reading.owed ticket) = (no_scan S ticket, 10) ∷ []

-- lines 3 to 11
unfoldable pub own_refusals : Store → Call → Refusals
own_refusals S (Call.opening n) = (not (n_in_range n), 3) ∷ []
own_refusals S (Call.change c) = change_refusals S c
own_refusals S Call.begin = (not (ltb (free_position S) S.desk.n), 9) ∷ (eqb S.desk.last 4294967295, 11) ∷ []
own_refusals S (Call.next ticket b o) = (no_scan S ticket, 10) ∷ []
own_refusals S (Call.reading r) = reading_refusals S r

-- "open gives only 1 and 3": it "looks at nothing that was there before"
unfoldable pub looks_at_desk : Call → Bool
looks_at_desk (Call.opening n) = false
looks_at_desk (Call.change c) = true
looks_at_desk Call.begin = true
looks_at_desk (Call.next ticket b o) = true
looks_at_desk (Call.reading r) = true

-- lines 1 to 11
unfoldable pub refusals : Lent → Call → Refusals
refusals l c = (not (all_right l c), 1) ∷ (looks_at_desk c && not (sound (read l)), 2) ∷ own_refusals (read l) c

-- ---- what a call gives that is not refused

abbrev pub changes_to : Store → Change → Store
changes_to S (Change.insert k b) = inserted S k b
changes_to S (Change.modify k b) = changed S (bearing S.table k) (some b)
changes_to S (Change.delete k) = changed S (bearing S.table k) none

abbrev pub shows : Store → Reading → Shown
shows S (Reading.peek ticket) = Shown.part (peeked S ticket)
shows S Reading.tally = Shown.counted (used S.table) (used S.shelf)
shows S (Reading.owed ticket) = Shown.owing (owed_by S (position_of S ticket))

unfoldable pub effect : Store → Call → Told
effect S (Call.opening n) = told done (opened n (T S) (R S)) []
effect S (Call.change c) = told done (changes_to S c) []
effect S Call.begin = told (begun (S.desk.last + 1)) (given S (free_position S)) []
effect S (Call.next ticket b o) = walk S (position_of S ticket) b 0 o
effect S (Call.reading r) = told (shown (shows S r)) S []

-- ---- what a refused call gives: "Refusals 1 to 11 change no byte."

-- peek is refused by an empty part
abbrev pub refused_reading : Reading → ℕ → Answer
refused_reading (Reading.peek ticket) j = shown (Shown.part [])
refused_reading Reading.tally j = refused j
refused_reading (Reading.owed ticket) j = refused j

unfoldable pub refused_as : Call → ℕ → Answer
refused_as (Call.opening n) j = refused j
refused_as (Call.change c) j = refused j
refused_as Call.begin j = refused j
refused_as (Call.next ticket b o) j = refused j
refused_as (Call.reading r) j = refused_reading r j

-- the hand-out buffer that a call is lent
unfoldable pub out_of : Call → List ℕ
out_of (Call.opening n) = []
out_of (Call.change c) = []
out_of Call.begin = []
out_of (Call.next ticket b o) = o
out_of (Call.reading r) = []

-- ---- the rule of a call on a sound desk: lines 3 to 11, else the effect

unfoldable pub settled : Option ℕ → Store → Call → Told
settled (some j) S c = told (refused_as c j) S (out_of c)
settled none S c = effect S c

unfoldable pub step : Store → Call → Told
step S c = settled (first_of (own_refusals S c)) S c

-- ---- the whole call, on any lent bytes: its answer, and every byte of every buffer after it

pub record Reply : Type 0 where
  pub answer : Answer
  pub after : Lent
  pub out : List ℕ

abbrev pub reply : Answer → Lent → List ℕ → Reply
reply a l o = record { answer = a; after = l; out = o }

abbrev pub written_all : Told → Reply
written_all r = reply r.answer (written r.after) r.out

unfoldable pub replied : Option ℕ → Lent → Call → Reply
replied (some j) l c = reply (refused_as c j) l (out_of c)
replied none l c = written_all (effect (read l) c)

unfoldable pub called : Lent → Call → Reply
called l c = replied (first_of (refusals l c)) l c

-- ---- the same as a C host sees it

pub record Returned : Type 0 where
  pub number : ℕ
  pub after : Lent
  pub out : List ℕ

abbrev pub returned : ℕ → Lent → List ℕ → Returned
returned n l o = record { number = n; after = l; out = o }

abbrev pub packed_reply : Reply → Returned
packed_reply r = returned (packed r.answer) r.after r.out
