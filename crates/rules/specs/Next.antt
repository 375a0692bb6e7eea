-- Next, look by look; and peek.
use Rattle.std.specs.Prelude.{Bool, true, false, ◌&&◌, List, [], ℕ, zero, suc, ◌+◌, ◌-◌, ltb, eqb, set}
use Rattle.std.proofs.Math.Option.{Option, none, some}
use Rattle.std.specs.Int.Bits.{bit_xor}
use Rattle.rules.specs.declared.Card.{Card}
use Rattle.rules.specs.Answers.{Answer, Draw}
use Rattle.rules.specs.Calls.{slot_in, in_use, card_of, position_of}
use Rattle.rules.specs.Masks.{Masks, off, all_ones, scan_mask, walk_ended, ended, STATUS_MASK_SCAN_UPD, REMSET_MASK_UPD}
use Rattle.rules.specs.Memory.{Slot, slot, free, card, idle, Desk, desk, Store, store, T, R, version}

-- what a call gives: its answer, the store after it, and the hand-out buffer after it
pub record Told : Type 0 where
  pub answer : Answer
  pub after : Store
  pub out : List ℕ

abbrev pub told : Answer → Store → List ℕ → Told
told a S o = record { answer = a; after = S; out = o }

-- the desk with other masks, and another card at position p
abbrev pub desk_with : Desk → Masks → ℕ → Card → Desk
desk_with d m p c = desk d.n d.t d.r d.last m d.zeros (set d.cards p c)

-- "Each look moves the place on by one"; "Each record handed out adds 1 to handed."
abbrev pub moved : Card → Bool → Card
moved c true = card c.ticket.0 (suc c.place) (suc c.handed) c.rest
moved c false = card c.ticket.0 (suc c.place) c.handed c.rest

-- "With the look at slot T - 1 the table walk ends"
abbrev pub turned : Bool → Masks → ℕ → Masks
turned true m p = walk_ended m p
turned false m p = m

-- ---- "Table look: an empty slot is passed. If the scan's bit of (stable XOR status) is 0, the record is handed out and that status
-- bit flipped; otherwise it is passed."

abbrev pub in_table : Store → ℕ → ℕ → Bool
in_table S p i = in_use (slot_in S.table i) && off (bit_xor S.desk.masks.stable (slot_in S.table i).mask) p

abbrev pub flipped : Slot → ℕ → Slot
flipped s p = slot s.number s.body (STATUS_MASK_SCAN_UPD s.mask (scan_mask p))

-- the store after the look at slot i, and the version found there
unfoldable pub table_look : Bool → Store → ℕ → ℕ → Store × Option Slot
table_look true S p i = (
  store (desk_with S.desk (turned (eqb (suc i) (T S)) S.desk.masks p) p (moved (card_of S p) true)) (set S.table i (flipped (slot_in S.table i) p)) S.shelf,
  some (slot_in S.table i),
)
table_look false S p i =
    (store (desk_with S.desk (turned (eqb (suc i) (T S)) S.desk.masks p) p (moved (card_of S p) false)) S.table S.shelf, none)

-- ---- "Shelf look: if the entry is in use and the scan's bit is 0, the version is handed out and the bit set; if the mask is then all
-- ones the entry is freed."

abbrev pub on_shelf : Store → ℕ → ℕ → Bool
on_shelf S p e = in_use (slot_in S.shelf e) && off (slot_in S.shelf e).mask p

abbrev pub freed_if : Bool → Slot → ℕ → Slot
freed_if true s m = free
freed_if false s m = slot s.number s.body m

abbrev pub taken : Slot → ℕ → Slot
taken s p = freed_if (all_ones 64 (REMSET_MASK_UPD (scan_mask p) s.mask)) s (REMSET_MASK_UPD (scan_mask p) s.mask)

-- the store after the look at entry e, and the version found there
unfoldable pub shelf_look : Bool → Store → ℕ → ℕ → Store × Option Slot
shelf_look true S p e =
    (store (desk_with S.desk S.desk.masks p (moved (card_of S p) true)) S.table (set S.shelf e (taken (slot_in S.shelf e) p)), some (slot_in S.shelf e))
shelf_look false S p e = (store (desk_with S.desk S.desk.masks p (moved (card_of S p) false)) S.table S.shelf, none)

-- ---- "looks at slots one at a time, table first, then shelf"; "place T + k is shelf entry k"

unfoldable pub look_at : Bool → Store → ℕ → ℕ → Store × Option Slot
look_at true S p q = table_look (in_table S p q) S p q
look_at false S p q = shelf_look (on_shelf S p (q - T S)) S p (q - T S)

abbrev pub look : Store → ℕ → Store × Option Slot
look S p = look_at (ltb (card_of S p).place (T S)) S p (card_of S p).place

-- ---- "until a record is in hand, the budget of looks is spent, or the place is T + R"

abbrev pub at_end : Store → ℕ → Bool
at_end S p = eqb (card_of S p).place (T S + R S)

-- "finished. The active bit becomes 1 and the card zero."
unfoldable pub finish : Store → ℕ → Store
finish S p = store (desk_with S.desk (ended S.desk.masks p) p idle) S.table S.shelf

-- the scan at position p goes on, with a budget left of b, l looks made and the hand-out buffer o.
-- "Place T + R and no record in hand: finished. .. This needs no budget."
unfoldable pub walk : Store → ℕ → ℕ → ℕ → List ℕ → Told
walk S p zero l o =
    elim (at_end S p) [ true ↦ told (Answer.drew (Draw.finished l zero (card_of S p).handed)) (finish S p) o | false ↦ told (Answer.drew (Draw.paused l)) S o ]
walk S p (suc b) l o =
    elim (at_end S p) [
      | true ↦ told (Answer.drew (Draw.finished l (suc b) (card_of S p).handed)) (finish S p) o
      | false ↦ elim (look S p).1 [ none ↦ walk (look S p).0 p b (suc l) o | some v ↦ told (Answer.drew (Draw.in_hand (suc l) b)) (look S p).0 (version v) ]
    ]

-- ---- "Peek (ticket): .. the record that next with unbounded budget would hand out. In all other cases the part is empty."
-- No budget over T + R is spent, and an empty hand-out buffer stays empty unless a record is handed out.

abbrev pub peeked : Store → ℕ → List ℕ
peeked S ticket = (walk S (position_of S ticket) (T S + R S) 0 []).out

-- the place of that record: its look moves the place on by one
abbrev pub peeked_at : Store → ℕ → ℕ
peeked_at S ticket = (card_of (walk S (position_of S ticket) (T S + R S) 0 []).after (position_of S ticket)).place - 1
