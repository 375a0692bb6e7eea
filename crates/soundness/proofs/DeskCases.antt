-- The three ways that the code tests the cards of a desk, by the masks that it has read.
use mathlib.Core.Path.{◌≡◌, sym, ap, ◌∙◌}
use mathlib.Core.Bool.{false}
use mathlib.Core.List.{List}
use Prim.Native.Nat.{ℕ, ◌^◌, ◌<◌}
use native.Mathlib.Omega.{arith}
use lib.Bits.{bit_and}
use Rattle.rules.specs.Bytes.{u32_at}
use Rattle.rules.specs.Masks.{bit, ones, NOT}
use Rattle.rules.proofs.Bits.{bit-ones}
use Rattle.rules.specs.Memory.{masks_of}
use Rattle.masks.specs.declared.Masks.{Masks}
use Rattle.masks.specs.Held.{held}
use Rattle.soundness.specs.declared.cards.Cards.{Cards}
use Rattle.soundness.specs.Every.{every}
use Rattle.soundness.specs.Words.{zero_words}
use Rattle.soundness.specs.Cards.{card_holds, cards_hold}
use Rattle.soundness.specs.Holds.{holds}
use Rattle.soundness.proofs.AllCards.{cards_clash, idle-run}
use Rattle.soundness.proofs.MaskBits.{idle_local}

module _ (d : List ℕ) (m : Masks) (t r : ℕ) where
  as_read : held m ≡ masks_of d → every (card_holds d (held m) t r (u32_at d 12)) 0 64 ≡ cards_hold d t r
  as_read e = ap (λ (k : Rattle.rules.specs.Masks.Masks). every (card_holds d k t r (u32_at d 12)) 0 64) e

  module _ (s : m.local < 2 ^ 64) where
    -- an idle position's local active bit is 0
    pub clash_case : held m ≡ masks_of d → m.active < 2 ^ 64 → (bit_and m.active (NOT 64 m.local) ≡ 0 → ⊥) → cards_hold d t r ≡ false
    clash_case e b x = sym (as_read e) ∙ cards_clash d (held m) t r (u32_at d 12) s b x

    -- no scan runs
    pub unscanned_case : held m ≡ masks_of d → bit_and m.active (NOT 64 m.local) ≡ 0 → m.active ≡ ones 64 → cards_hold d t r ≡ zero_words d 8 136
    unscanned_case e x a =
        sym
        (idle-run d (held m) t r (u32_at d 12) (idle_local m.active m.local s x) 0 64 (omega arith)
        (λ i h k. ap (λ (w : ℕ). bit w i) a ∙ bit-ones 64 i (omega arith))
        ∙ as_read e)

-- a scan runs
pub scanned_case : (c : Cards) → held c.masks ≡ masks_of c.desk.now → c.limits.last.0 ≡ u32_at c.desk.now 12 → every (holds c) 0 64 ≡ cards_hold c.desk.now c.limits.slots c.limits.entries
unfolding holds
scanned_case c e p = rw p (as_read c.desk.now c.masks c.limits.slots c.limits.entries e)

pub ruleset desk_cases = (clash_case, unscanned_case, scanned_case, idle_local)
