-- The lent memory: the bytes, the records that they spell, and the one from the other.
use Rattle.std.specs.Prelude.{List, [], ◌∷◌, ◌++◌, ℕ, zero, suc, ◌+◌, ◌*◌, ◌/◌, length, replicate}
use Rattle.rules.specs.declared.Card.{Card}
use Rattle.rules.specs.Bytes.{to_le, field, u32_at, u64_at}
use Rattle.rules.specs.Masks.{Masks, masks}

-- "The host lends three buffers on each call"
pub record Lent : Type 0 where
  pub desk : List ℕ
  pub table : List ℕ
  pub shelf : List ℕ

abbrev pub lent : List ℕ → List ℕ → List ℕ → Lent
lent d t s = record { desk = d; table = t; shelf = s }

-- "Slot: record number (4 bytes, 0 means empty), body (52), status mask (8)."
-- An entry's "layout is a slot's, with the remset status mask last."
pub record Slot : Type 0 where
  pub number : ℕ
  pub body : List ℕ
  pub mask : ℕ

abbrev pub slot : ℕ → List ℕ → ℕ → Slot
slot n b m = record { number = n; body = b; mask = m }

-- "A freed slot or entry becomes 64 zero bytes."
abbrev pub free : Slot
free = slot 0 (replicate 52 0) 0

-- "ticket (0 means no scan), place, handed, zero"
abbrev pub card : ℕ → ℕ → ℕ → ℕ → Card
card ticket place handed rest = record { ticket = record { 0 = ticket }; place = place; handed = handed; rest = rest }

abbrev pub idle : Card
idle = card 0 0 0 0

-- "At 0 N, 4 T, 8 R, 12 the last ticket given (4 bytes each), 16 stable mask, 24 active mask, 32 local active mask (8 each),
-- 40 to 63 zero. Then 64 cards of 16 bytes"
pub record Desk : Type 0 where
  pub n : ℕ
  pub t : ℕ
  pub r : ℕ
  pub last : ℕ
  pub masks : Masks
  pub zeros : List ℕ
  pub cards : List Card

abbrev pub desk : ℕ → ℕ → ℕ → ℕ → Masks → List ℕ → List Card → Desk
desk n slots entries last m z c = record { n = n; t = slots; r = entries; last = last; masks = m; zeros = z; cards = c }

pub record Store : Type 0 where
  pub desk : Desk
  pub table : List Slot
  pub shelf : List Slot

abbrev pub store : Desk → List Slot → List Slot → Store
store d t s = record { desk = d; table = t; shelf = s }

-- "Table: T slots of 64 bytes"; "Shelf: R entries of 64 bytes"
abbrev pub T : Store → ℕ
T S = length S.table

abbrev pub R : Store → ℕ
R S = length S.shelf

-- ---- from bytes to records

-- f i, f (i + 1), .., n of them
unfoldable pub each : {A : Type 0} → (ℕ → A) → ℕ → ℕ → List A
each f i zero = []
each f i (suc n) = f i ∷ each f (suc i) n

abbrev pub slot_at : List ℕ → ℕ → Slot
slot_at l i = slot (u32_at l (i * 64)) (field 52 (i * 64 + 4) l) (u64_at l (i * 64 + 56))

abbrev pub slots_of : List ℕ → List Slot
slots_of l = each (slot_at l) 0 (length l / 64)

abbrev pub card_at : List ℕ → ℕ → Card
card_at d i = card (u32_at d (64 + i * 16)) (u32_at d (64 + i * 16 + 4)) (u32_at d (64 + i * 16 + 8)) (u32_at d (64 + i * 16 + 12))

abbrev pub masks_of : List ℕ → Masks
masks_of d = masks (u64_at d 16) (u64_at d 24) (u64_at d 32)

unfoldable pub desk_of : List ℕ → Desk
desk_of d = desk (u32_at d 0) (u32_at d 4) (u32_at d 8) (u32_at d 12) (masks_of d) (field 24 40 d) (each (card_at d) 0 64)

-- the store that the bytes of desk, table and shelf spell
unfoldable pub store_of : List ℕ → List ℕ → List ℕ → Store
store_of d t s = store (desk_of d) (slots_of t) (slots_of s)

abbrev pub read : Lent → Store
read l = store_of l.desk l.table l.shelf

-- ---- from records to bytes

unfoldable pub joined : {A : Type 0} → (A → List ℕ) → List A → List ℕ
joined f [] = []
joined f (x ∷ xs) = f x ++ joined f xs

-- the 56 bytes of number and body
abbrev pub version : Slot → List ℕ
version s = to_le 4 s.number ++ s.body

abbrev pub slot_bytes : Slot → List ℕ
slot_bytes s = version s ++ to_le 8 s.mask

abbrev pub card_bytes : Card → List ℕ
card_bytes c = to_le 4 c.ticket.0 ++ (to_le 4 c.place ++ (to_le 4 c.handed ++ to_le 4 c.rest))

abbrev pub masks_bytes : Masks → List ℕ
masks_bytes m = to_le 8 m.stable ++ (to_le 8 m.active ++ to_le 8 m.local)

unfoldable pub desk_bytes : Desk → List ℕ
desk_bytes d = to_le 4 d.n ++ (to_le 4 d.t ++ (to_le 4 d.r ++ (to_le 4 d.last ++ (masks_bytes d.masks ++ (d.zeros ++ joined card_bytes d.cards)))))

unfoldable pub written : Store → Lent
written S = lent (desk_bytes S.desk) (joined slot_bytes S.table) (joined slot_bytes S.shelf)
