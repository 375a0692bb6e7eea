-- The ways that the code tests the card of a position, and those of eight.
use mathlib.Core.Path.{◌≡◌, refl, sym, ap, ◌∙◌}
use mathlib.Core.Bool.{Bool, true, false, not, ◌&&◌, and-true}
use Prim.Native.Nat.{ℕ, ◌+◌, ◌*◌, ◌/◌, ◌%◌, ◌^◌, ◌≤◌, ◌<◌}
use native.Mathlib.Omega.{arith}
use borrow.Author.Tests.{eqb-true, eqb-false}
use Rattle.rules.specs.Masks.{bit, on}
use Rattle.rules.specs.Memory.{card_at}
use Rattle.rules.proofs.Bits.{bit_low, not_on}
use Rattle.masks.specs.Held.{held}
use Rattle.numbers.specs.Busy.{busy_holds}
use Rattle.soundness.specs.declared.cards.Cards.{Cards}
use Rattle.soundness.specs.Every.{every}
use Rattle.soundness.specs.Words.{zero_words}
use Rattle.soundness.specs.Holds.{holds}
use Rattle.soundness.proofs.Every.{every_more}
use Rattle.soundness.proofs.MaskBits.{byte_bit, byte_on, byte_off}
use Rattle.soundness.proofs.OneCard.{busy_is}
use Rattle.soundness.proofs.AllCards.{idle-run}

module _ (c : Cards) where
  -- the card of position i by the test of a busy card
  abbrev busy : ℕ → Bool → Bool
  busy i low = busy_holds (card_at c.desk.now i) low c.limits.last.0 c.limits.slots c.limits.entries

  busy_here : (i : ℕ) → bit c.masks.active i ≡ 0 → holds c i ≡ busy i (not (on c.masks.local i))
  unfolding holds
  busy_here i o = busy_is c.desk.now (held c.masks) c.limits.slots c.limits.entries c.limits.last.0 i o ∙ ap (busy i) (sym (not_on c.masks.local i))

  pub busy_case : (i : ℕ) → on c.masks.active i ≡ false → holds c i ≡ busy i (not (on c.masks.local i))
  busy_case i f =
      let n : bit c.masks.active i ≡ 1 → ⊥ = eqb-false (bit c.masks.active i) 1 f in
      busy_here i (omega (arith, bit_low c.masks.active i))

  -- a loop over eight busy positions from p on has come to the i-th
  pub busy_turn : (p i : ℕ) → i < 8 → c.masks.active / 2 ^ p % 256 ≡ 0
      → every (holds c) p (i + 1) ≡ every (holds c) p i && busy (p + i) (not (on (c.masks.local / 2 ^ p % 256) i))
  busy_turn p i h o =
      every_more (holds c) p i
      ∙ rw (busy_here (p + i) (byte_off c.masks.active p (p + i) (omega arith) (omega arith) o), byte_bit c.masks.local p i h) refl

  -- idle positions side by side: the words of their cards
  idle_words : (k n : ℕ) → k + n ≤ 64 → ((i : ℕ) → k ≤ i → i < k + n → bit c.masks.active i ≡ 1) → every (holds c) k n ≡ zero_words c.desk.now (8 + k * 2) (8 + k * 2 + n * 2)
  unfolding holds
  idle_words k n h o = sym (idle-run c.desk.now (held c.masks) c.limits.slots c.limits.entries c.limits.last.0 c.idle_local k n h o)

  pub idle_case : (i : ℕ) → i < 64 → on c.masks.active i ≡ true → holds c i ≡ zero_words c.desk.now (8 + i * 2) (8 + i * 2 + 2)
  unfolding every
  idle_case i h o =
      sym (and-true (holds c i)) ∙ idle_words i 1 (omega arith) (λ k a b. let z : k ≡ i = omega arith in rw z (eqb-true (bit c.masks.active i) 1 o))

  -- eight idle positions from p on
  pub eight_case : (p : ℕ) → p + 8 ≤ 64 → c.masks.active / 2 ^ p % 256 ≡ 255 → every (holds c) p 8 ≡ zero_words c.desk.now (8 + p * 2) (8 + p * 2 + 16)
  eight_case p h o = idle_words p 8 h (λ k a b. byte_on c.masks.active p k a b o)
