-- The test of the cards.
use Rattle.std.specs.Prelude.{◌≡◌, Bool, List, ℕ, ◌<◌}
use Rattle.rules.specs.Bytes.{u32_at}
use Rattle.rules.specs.Masks.{Masks, bit}
use Rattle.rules.specs.Memory.{card_at, masks_of}
use Rattle.rules.specs.Sound.{card_rules, all_hold}
use Rattle.soundness.specs.Every.{every}

-- the card of position i keeps the rules
unfoldable pub card_holds : List ℕ → Masks → ℕ → ℕ → ℕ → ℕ → Bool
card_holds d m t r last i = all_hold (card_rules m t r last (card_at d i) i)

-- the cards of all positions do
abbrev pub cards_hold : List ℕ → ℕ → ℕ → Bool
cards_hold d t r = every (card_holds d (masks_of d) t r (u32_at d 12)) 0 64

-- every idle position's local active bit is 1
abbrev pub IdleLocal : Rattle.masks.specs.declared.Masks.Masks → Type 0
IdleLocal m = (i : ℕ) → i < 64 → bit m.active i ≡ 1 → bit m.local i ≡ 1
