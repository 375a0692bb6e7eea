-- The test of a card with a scan on it, as the code makes it.
use Rattle.std.specs.Prelude.{Bool, not, ◌&&◌, ℕ, ◌+◌, ltb, leb, eqb}
use Rattle.rules.specs.declared.Card.{Card}
use Rattle.rules.specs.Sound.{same, last_word_ok}

-- the card keeps its rules; its local active bit is 0 where `low`
unfoldable pub busy_holds : Card → Bool → ℕ → ℕ → ℕ → Bool
busy_holds c low last t r =
    not (eqb c.ticket.0 0)
    && (leb c.ticket.0 last && (leb c.place (t + r) && (same (ltb c.place t) low && (leb c.handed c.place && last_word_ok c.rest))))
