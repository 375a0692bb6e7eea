-- The scans of a desk: whether any runs, and the tickets on the cards.
use Rattle.std.specs.Prelude.{◌≡◌, Bool, List, ℕ, ◌+◌, ◌*◌, ◌≤◌, ◌<◌, eqb}
use Rattle.rules.specs.Bytes.{u32_at, u64_at}
use Rattle.rules.specs.Masks.{ones}

-- no scan runs
abbrev pub Unscanned : List ℕ → Type 0
Unscanned d = u64_at d 24 ≡ ones 64

-- the ticket on the card of position i
abbrev pub ticket_at : List ℕ → ℕ → ℕ
ticket_at d i = u32_at d (64 + i * 16)

-- that card bears the ticket
abbrev pub bears_ticket : List ℕ → ℕ → ℕ → Bool
bears_ticket d t i = eqb (ticket_at d i) t

-- no card from position i up bears it
abbrev pub NoneFrom : List ℕ → ℕ → ℕ → Type 0
NoneFrom d t i = (k : ℕ) → i ≤ k → k < 64 → ticket_at d k ≡ t → ⊥
