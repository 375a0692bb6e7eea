-- The desk is sound: the rules before the cards, then those of the cards.
use mathlib.Core.Path.{◌≡◌, sym, ap, ◌∙◌}
use mathlib.Core.Bool.{Bool, ◌&&◌}
use mathlib.Core.List.{List, ◌++◌}
use Prim.Native.Nat.{ℕ, ◌/◌}
use lib.ListN.{length}
use Rattle.rules.specs.Bytes.{u32_at}
use Rattle.rules.specs.Memory.{store_of, each, card_at, slot_at, slots_of, masks_of, desk_of}
use Rattle.rules.specs.Sound.{all_hold, head_rules, cards_rules, desk_rules, sound}
use Rattle.rules.proofs.Each.{length-each}
use Rattle.rules.proofs.Soundness.{holds-append}
use Rattle.soundness.specs.Cards.{cards_hold}
use Rattle.soundness.proofs.AllCards.{cards-every}

-- with a for T and b for R
module _ (d : List ℕ) (a b : ℕ) where
  abbrev head : Bool
  head = all_hold (head_rules (desk_of d) a b)

  abbrev rules : Bool
  rules = all_hold (head_rules (desk_of d) a b ++ cards_rules (masks_of d) a b (u32_at d 12) (each (card_at d) 0 64) 0)

  rules_are : head && cards_hold d a b ≡ rules
  rules_are =
      ap (λ (x : Bool). head && x) (cards-every d (masks_of d) a b (u32_at d 12) 0 64)
      ∙ sym (holds-append (head_rules (desk_of d) a b) (cards_rules (masks_of d) a b (u32_at d 12) (each (card_at d) 0 64) 0))

module _ (d t s : List ℕ) where
  pub sound_is : sound (store_of d t s) ≡ head d (length t / 64) (length s / 64) && cards_hold d (length t / 64) (length s / 64)
  unfolding sound desk_rules store_of desk_of
  sound_is =
      sym
      (rules_are d (length t / 64) (length s / 64)
      ∙ ap (λ (a : ℕ). rules d a (length s / 64)) (sym (length-each (slot_at t) 0 (length t / 64)))
      ∙ ap (λ (b : ℕ). rules d (length (slots_of t)) b) (sym (length-each (slot_at s) 0 (length s / 64))))
