-- The rules of all cards, as the code tests them.
use mathlib.Core.Path.{◌≡◌, refl, sym, ap, ◌∙◌}
use mathlib.Core.Bool.{Bool, true, false, ◌&&◌, and-true}
use mathlib.Core.List.{List}
use Prim.Native.Nat.{ℕ, zero, suc, ◌+◌, ◌*◌, ◌-◌, ◌^◌, ◌≤◌, ◌<◌}
use native.Mathlib.Omega.{arith}
use lib.Bits.{bit_and}
use borrow.Author.Tests.{eqb-true, eq-eqb}
use Rattle.rules.specs.Masks.{Masks, bit, on, NOT}
use Rattle.rules.specs.Memory.{each, card_at}
use Rattle.rules.specs.Sound.{all_hold, card_rules, cards_rules}
use Rattle.rules.proofs.Soundness.{holds-append}
use Rattle.soundness.specs.Every.{every}
use Rattle.soundness.specs.Words.{zero_word, zero_words, zero_card}
use Rattle.soundness.specs.Cards.{card_holds}
use Rattle.joins.proofs.Bools.{and_right}
use Rattle.soundness.proofs.Every.{every_at, every-same, every_pairs}
use Rattle.soundness.proofs.MaskBits.{local-idle}
use Rattle.soundness.proofs.OneCard.{idle_is}

module _ (d : List ℕ) (m : Masks) (t r last : ℕ) where
  pub cards-every : (i n : ℕ) → every (card_holds d m t r last) i n ≡ all_hold (cards_rules m t r last (each (card_at d) i n) i)
  unfolding every each card_holds cards_rules all_hold
  cards-every i zero = refl
  cards-every i (suc n) =
      ap (λ (x : Bool). all_hold (card_rules m t r last (card_at d i) i) && x) (cards-every (suc i) n)
      ∙ sym (holds-append (card_rules m t r last (card_at d i) i) (cards_rules m t r last (each (card_at d) (suc i) n) (suc i)))

  -- an idle position whose local active bit is 0
  pub cards_clash : m.local < 2 ^ 64 → m.active < 2 ^ 64 → (bit_and m.active (NOT 64 m.local) ≡ 0 → ⊥) → every (card_holds d m t r last) 0 64 ≡ false
  cards_clash s b x = go (every (card_holds d m t r last) 0 64) refl
    where
      go : (y : Bool) → every (card_holds d m t r last) 0 64 ≡ y → y ≡ false
      go false e = refl
      go true e =
          absurd
          (x
          (local-idle m.active m.local s b
          (λ i h o.
          eqb-true (bit m.local i) 1
          (and_right (zero_card d i) (on m.local i)
          (sym (idle_is d m t r last i o) ∙ every_at (card_holds d m t r last) 0 64 e i (omega arith) (omega arith))))))

  -- idle positions side by side: the words of their cards
  pub idle-run : ((i : ℕ) → i < 64 → bit m.active i ≡ 1 → bit m.local i ≡ 1) → (k n : ℕ) → k + n ≤ 64 → ((i : ℕ) → k ≤ i → i < k + n → bit m.active i ≡ 1)
      → zero_words d (8 + k * 2) (8 + k * 2 + n * 2) ≡ every (card_holds d m t r last) k n
  idle-run x k n h o =
      let e : 8 + k * 2 + n * 2 - (8 + k * 2) ≡ n * 2 = omega arith in
      rw e (sym (every-same (card_holds d m t r last) (zero_card d) k n (λ i a b. one i (omega arith) (o i a b)) ∙ every_pairs (zero_word d) 8 k n))
    where
      one : (i : ℕ) → i < 64 → bit m.active i ≡ 1 → card_holds d m t r last i ≡ zero_card d i
      one i h o =
          idle_is d m t r last i o
          ∙ ap (λ (y : Bool). zero_card d i && y) (eq-eqb (bit m.local i) 1 (x i h o))
          ∙ and-true (zero_card d i)
