-- The answers, the numbers that come back for them, and what a C host sees.
use Rattle.std.specs.Prelude.{List, ℕ, ◌+◌, ◌*◌, Result, Ok, Err, ⊤}
use Rattle.rules.specs.declared.Draw.{Draw as DrawOfCode}
use Rattle.rules.specs.declared.Owed.{Owed}
use Rattle.rules.specs.declared.Refusal.{Refusal as RefusalOfCode}
use Rattle.rules.specs.declared.Tally.{Tally}
use Rattle.rules.specs.declared.Ticket.{Ticket}

-- what next tells: a record in hand, the budget spent, or the end; each with the looks made and the budget left
pub data Draw : Type 0 where
  in_hand : (looks left : ℕ) → Draw
  paused : (looks : ℕ) → Draw
  finished : (looks left handed : ℕ) → Draw

-- what tally, owed and peek show
pub data Shown : Type 0 where
  counted : (records entries : ℕ) → Shown
  owing : (count : ℕ) → Shown
  part : (bytes : List ℕ) → Shown

-- a refusal: its number, and the value that is told with it, none in the base
abbrev pub Refusal : Type 0
Refusal = ℕ

abbrev pub refusal_number : Refusal → ℕ
refusal_number j = j

abbrev pub refusal_value : Refusal → ℕ
refusal_value j = 0

pub data Answer : Type 0 where
  done : Answer
  begun : (ticket : ℕ) → Answer
  drew : Draw → Answer
  shown : Shown → Answer
  refused : (number : Refusal) → Answer

-- "0 done; from next: a record in hand", "100 next: budget spent ..", "101 next: finished"
abbrev pub draw_number : Draw → ℕ
draw_number (Draw.in_hand l b) = 0
draw_number (Draw.paused l) = 100
draw_number (Draw.finished l b h) = 101

unfoldable pub number : Answer → ℕ
number done = 0
number (begun ticket) = 0
number (drew d) = draw_number d
number (shown s) = 0
number (refused j) = refusal_number j

-- "Value: begin, the ticket; next with 0 or 100, the looks; with 101, looks + 2,097,152 × handed; tally, records + 32,768 × entries;
-- owed, its count; after a refusal, and otherwise, 0."
abbrev pub draw_value : Draw → ℕ
draw_value (Draw.in_hand l b) = l
draw_value (Draw.paused l) = l
draw_value (Draw.finished l b h) = l + 2097152 * h

abbrev pub shown_value : Shown → ℕ
shown_value (Shown.counted r e) = r + 32768 * e
shown_value (Shown.owing c) = c
shown_value (Shown.part bs) = 0

unfoldable pub value : Answer → ℕ
value done = 0
value (begun ticket) = ticket
value (drew d) = draw_value d
value (shown s) = shown_value s
value (refused j) = refusal_value j

-- "return one 64-bit number, answer + 256 × value"
unfoldable pub packed : Answer → ℕ
packed a = number a + 256 * value a

-- ---- the answers of the code, case by case

-- its refusals by the numbers of document 01
unfoldable pub number_of : RefusalOfCode → ℕ
number_of RefusalOfCode.BadLength = 1
number_of RefusalOfCode.BadDesk = 2
number_of RefusalOfCode.BadNumber = 3
number_of RefusalOfCode.BadKind = 4
number_of RefusalOfCode.AlreadyThere = 5
number_of RefusalOfCode.NotThere = 6
number_of RefusalOfCode.TableFull = 7
number_of RefusalOfCode.ShelfFull = 8
number_of RefusalOfCode.NoPosition = 9
number_of RefusalOfCode.NoScan = 10
number_of RefusalOfCode.NoTicket = 11

unfoldable pub draw_of : DrawOfCode → Draw
draw_of (DrawOfCode.InHand l b) = Draw.in_hand l b
draw_of (DrawOfCode.Paused l) = Draw.paused l
draw_of (DrawOfCode.Finished l b h) = Draw.finished l b h

-- what a call that is not refused tells, by its value
abbrev pub change_tells : ⊤ → Answer
change_tells u = done

abbrev pub begin_tells : Ticket → Answer
begin_tells ticket = begun ticket.0

abbrev pub next_tells : DrawOfCode → Answer
next_tells d = drew (draw_of d)

abbrev pub tally_tells : Tally → Answer
tally_tells c = shown (Shown.counted c.records c.entries)

abbrev pub owed_tells : Owed → Answer
owed_tells c = shown (Shown.owing c.0)

-- and what each call answers, refused or not
unfoldable pub says : {A : Type 0} → (A → Answer) → Result A RefusalOfCode → Answer
says tells (Ok x) = tells x
says tells (Err r) = refused (number_of r)

abbrev pub change_says : Result ⊤ RefusalOfCode → Answer
change_says = says change_tells

abbrev pub begin_says : Result Ticket RefusalOfCode → Answer
begin_says = says begin_tells

abbrev pub next_says : Result DrawOfCode RefusalOfCode → Answer
next_says = says next_tells

abbrev pub tally_says : Result Tally RefusalOfCode → Answer
tally_says = says tally_tells

abbrev pub owed_says : Result Owed RefusalOfCode → Answer
owed_says = says owed_tells
