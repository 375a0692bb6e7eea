-- What next leaves of a scan once its looks are made, as the contracts of the code say it.
use Rattle.std.specs.Prelude.{List, ◌≡◌, ℕ, suc, ◌+◌, ◌/◌, ◌≤◌, ◌<◌, length}
use Rattle.rules.specs.declared.Card.{Card}
use Rattle.rules.specs.Calls.{card_of}
use Rattle.rules.specs.Promises.{Buffer}
use Rattle.rules.specs.Masks.{Masks}
use Rattle.rules.specs.Memory.{Slot, store, slots_of, card_at, masks_of, desk_of, store_of, version}
use Rattle.rules.specs.Next.{finish}
use Rattle.joins.specs.Walks.{moved_to, took, here}

-- card and masks are those of the desk for the scan at p, which can go on to place q
abbrev pub CanGoOn : List ℕ → ℕ → Card → Masks → ℕ → Type 0
CanGoOn d p c m q = (c ≡ card_at d p) × (m ≡ masks_of d) × (q < 4294967296)

-- and its last look, in table or shelf, found what can be handed out
abbrev pub CanHandOut : List ℕ → List ℕ → List ℕ → ℕ → Card → Masks → ℕ → Type 0
CanHandOut d t s p c m looks =
    (c ≡ card_at d p)
    × (m ≡ masks_of d)
    × (c.place + looks ≤ length t / 64 + length s / 64)
    × (length t / 64 + length s / 64 < 4294967296)
    × (0 < looks)
    × (c.handed < 4294967295)

-- the desk of a scan that has moved to place q with h handed, over any table and shelf
abbrev pub GoesOn : Buffer → Buffer → ℕ → ℕ → ℕ → Type 0
GoesOn d t p q h = (s : List ℕ) (tb sf : List Slot) → store (desk_of d.exit) tb sf ≡ moved_to (store_of d.entry t.entry s) p q h tb sf

-- it has moved over the table and shelf as they are
abbrev pub MovesOn : Buffer → Buffer → ℕ → ℕ → ℕ → Type 0
MovesOn d t p q h = (s : List ℕ) → store_of d.exit t.entry s ≡ moved_to (store_of d.entry t.entry s) p q h (slots_of t.entry) (slots_of s)

-- and is finished
abbrev pub Finishes : Buffer → Buffer → ℕ → ℕ → ℕ → Type 0
Finishes d t p q h = (s : List ℕ) → store_of d.exit t.entry s ≡ finish (moved_to (store_of d.entry t.entry s) p q h (slots_of t.entry) (slots_of s)) p

-- table, shelf and hand-out buffer where a scan takes the version at place q, whatever the desk
abbrev pub Takes : Buffer → Buffer → Buffer → ℕ → ℕ → Type 0
Takes t s o p q =
    (d : List ℕ)
    → (moved_to (store_of d t.entry s.entry) p (suc q) (suc (card_of (store_of d t.entry s.entry) p).handed) (slots_of t.exit) (slots_of s.exit) ≡ took (store_of d t.entry s.entry) p q)
    × (o.exit ≡ version (here (store_of d t.entry s.entry) q))

-- and with the desk: the version at place q is handed out
abbrev pub HandsOut : Buffer → Buffer → Buffer → Buffer → ℕ → ℕ → Type 0
HandsOut d t s o p q =
    (store_of d.exit t.exit s.exit ≡ took (store_of d.entry t.entry s.entry) p q)
    × (o.exit ≡ version (here (store_of d.entry t.entry s.entry) q))
