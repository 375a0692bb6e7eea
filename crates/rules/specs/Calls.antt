-- What open, insert, modify, delete, begin, tally and owed do.
use Rattle.std.specs.Prelude.{Bool, true, false, not, ◌&&◌, List, [], ◌∷◌, ℕ, zero, suc, ◌+◌, eqb, length, get_or, set, replicate}
use Rattle.std.proofs.Math.Option.{Option, none, some}
use Rattle.rules.specs.declared.Card.{Card}
use Rattle.rules.specs.Masks.{bit, on, off, all_ones, fresh, walk_begun, new_status, m_of}
use Rattle.rules.specs.Memory.{Slot, slot, free, card, idle, desk, Store, store}

-- ---- what is looked for

-- the lowest of the n numbers from i on that passes, or i + n
unfoldable pub first : (ℕ → Bool) → ℕ → ℕ → ℕ
first p i zero = i
first p i (suc n) = elim (p i) [ true ↦ i | false ↦ first p (suc i) n ]

-- what stands in slot i of a table, or in entry i of a shelf
abbrev pub slot_in : List Slot → ℕ → Slot
slot_in l i = get_or l i free

-- "record number (4 bytes, 0 means empty)"
abbrev pub in_use : Slot → Bool
in_use s = not (eqb s.number 0)

-- "the lowest slot bearing the number", or the count of slots
abbrev pub bearing : List Slot → ℕ → ℕ
bearing l k = first (λ i. eqb (slot_in l i).number k) 0 (length l)

-- "the lowest empty slot", or the count of slots
abbrev pub empty_slot : List Slot → ℕ
empty_slot l = bearing l 0

-- the entry that a shelved version takes: "the lowest empty shelf entry"
abbrev pub shelf_entry : Store → ℕ
shelf_entry S = empty_slot S.shelf

-- "the lowest position below N with active bit 1", or N
abbrev pub free_position : Store → ℕ
free_position S = first (λ i. on S.desk.masks.active i) 0 S.desk.n

abbrev pub card_of : Store → ℕ → Card
card_of S p = get_or S.desk.cards p idle

-- the scan of a ticket: "the lowest position is meant"; 64 where it is on no card
abbrev pub position_of : Store → ℕ → ℕ
position_of S ticket = first (λ i. eqb (card_of S i).ticket.0 ticket) 0 64

-- ---- "Open (N): writes a fresh desk (both active masks all ones, everything else zero but N, T, R) and zeroes table and shelf."

unfoldable pub opened : ℕ → ℕ → ℕ → Store
opened n slots entries = store (desk n slots entries 0 fresh (replicate 24 0) (replicate 64 idle)) (replicate slots free) (replicate entries free)

-- ---- "Insert: into the lowest empty slot, status mask = NOT (stable XOR local active)."

unfoldable pub inserted : Store → ℕ → List ℕ → Store
inserted S k b = store S.desk (set S.table (empty_slot S.table) (slot k b (new_status S.desk.masks))) S.shelf

-- ---- "Modify, delete: on the lowest slot bearing the number."

-- m of the version in slot i
abbrev pub m_at : Store → ℕ → ℕ
m_at S i = m_of S.desk.masks (slot_in S.table i).mask

-- "If m is all ones"
abbrev pub unawaited : Store → ℕ → Bool
unawaited S i = all_ones 64 (m_at S i)

-- "the present version goes, with m as its mask"
abbrev pub present : Store → ℕ → Slot
present S i = slot (slot_in S.table i).number (slot_in S.table i).body (m_at S i)

-- "Then the body is replaced, or the slot freed."
abbrev pub replaced : Slot → Option (List ℕ) → ℕ → Slot
replaced s none m = free
replaced s (some b) m = slot s.number b m

-- m all ones: "no mask and no shelf byte changes"; else the present version "goes .. into the lowest empty shelf entry, and a
-- modified record's status becomes NOT (stable XOR local active)"
unfoldable pub changed_by : Bool → Store → ℕ → Option (List ℕ) → Store
changed_by true S i b = store S.desk (set S.table i (replaced (slot_in S.table i) b (slot_in S.table i).mask)) S.shelf
changed_by false S i b =
    store S.desk (set S.table i (replaced (slot_in S.table i) b (new_status S.desk.masks))) (set S.shelf (shelf_entry S) (present S i))

abbrev pub changed : Store → ℕ → Option (List ℕ) → Store
changed S i b = changed_by (unawaited S i) S i b

-- ---- "Begin: takes the lowest position below N with active bit 1, clears it in both active masks, gives last ticket + 1, place 0."

-- a ticket is given: the last one + 1
abbrev pub ticket_given : Store → Store
ticket_given S = store (desk S.desk.n S.desk.t S.desk.r (S.desk.last + 1) S.desk.masks S.desk.zeros S.desk.cards) S.table S.shelf

-- the scan of a ticket takes position p, at place 0
abbrev pub position_taken : Store → ℕ → ℕ → Store
position_taken S ticket p =
    store
    (desk S.desk.n S.desk.t S.desk.r S.desk.last (walk_begun S.desk.masks p) S.desk.zeros (set S.desk.cards p (card ticket 0 0 0)))
    S.table S.shelf

-- position p is given to the scan of a new ticket
unfoldable pub given : Store → ℕ → Store
given S p = position_taken (ticket_given S) (ticket_given S).desk.last p

-- ---- "Tally: records in the table, entries in use."

unfoldable pub count : (Slot → Bool) → List Slot → ℕ
count p [] = 0
count p (s ∷ ss) = elim (p s) [ true ↦ suc (count p ss) | false ↦ count p ss ]

abbrev pub used : List Slot → ℕ
used l = count in_use l

-- ---- "Owed (ticket): table records whose status bit equals the stable bit at the scan's position, plus shelf entries in use whose
-- bit is 0 there."

abbrev pub owed_by : Store → ℕ → ℕ
owed_by S p =
    count (λ s. in_use s && eqb (bit s.mask p) (bit S.desk.masks.stable p)) S.table
    + count (λ s. in_use s && off s.mask p) S.shelf
