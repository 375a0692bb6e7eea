-- The test of a card, by what the code has read of the desk.
use Rattle.std.specs.Prelude.{Bool, ℕ}
use Rattle.masks.specs.Held.{held}
use Rattle.soundness.specs.declared.cards.Cards.{Cards}
use Rattle.soundness.specs.Cards.{card_holds}

-- the card of position i keeps the rules
unfoldable pub holds : Cards → ℕ → Bool
holds c i = card_holds c.desk.now (held c.masks) c.limits.slots c.limits.entries c.limits.last.0 i
