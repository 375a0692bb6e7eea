-- What the calls of a scan find, once the way in is open: the bytes of a sound store, and the scan of a ticket.
use Rattle.std.specs.Prelude.{Bool, true, false, List, ◌≡◌, ℕ, ◌+◌, ◌/◌, ◌<◌, eqb, length}
use Rattle.rules.specs.Calls.{position_of}
use Rattle.rules.specs.Memory.{Store, card_at, store_of}
use Rattle.rules.specs.Sound.{sound}

abbrev pub Ready : List ℕ → List ℕ → List ℕ → Type 0
Ready d t s = (length d ≡ 1088) × (length t / 64 + length s / 64 < 4294967295) × (sound (store_of d t s) ≡ true)

-- the desk of such a store
abbrev pub ReadyDesk : List ℕ → Type 0
ReadyDesk d = (length d ≡ 1088) × ((t : List ℕ) × (s : List ℕ) × (sound (store_of d t s) ≡ true))

-- a scan runs at position p
abbrev pub Runs : List ℕ → ℕ → Type 0
Runs d p = (p < 64) × ((card_at d p).ticket.0 ≡ 0 → ⊥)

-- the position of a ticket's scan; 64 where the ticket is 0 or on no card
abbrev pub scan_by : Bool → ℕ → ℕ
scan_by true p = 64
scan_by false p = p

abbrev pub scan_of : Store → ℕ → ℕ
scan_of S ticket = scan_by (eqb ticket 0) (position_of S ticket)
