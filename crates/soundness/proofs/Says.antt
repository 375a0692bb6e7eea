-- What a sound desk says of N, of the cards from N up, and of the card of a running scan.
use mathlib.Core.Path.{◌≡◌, refl, sym, ap, ◌∙◌}
use mathlib.Core.Bool.{Bool, true, false, not, ◌&&◌}
use mathlib.Core.List.{List}
use Prim.Native.Nat.{ℕ, ◌+◌, ◌*◌, ◌-◌, ◌/◌, ◌%◌, ◌^◌, ◌≤◌, ◌<◌}
use native.Mathlib.Omega.{arith}
use lib.Dec.{ltb, leb, eqb}
use lib.ListN.{length}
use lib.Pow.{shr-shr}
use borrow.Author.Tests.{eqb-true, leb-true, eq-eqb, ne_eqb}
use Rattle.rules.specs.Bytes.{field, u32_at, u64_at}
use Rattle.rules.specs.Masks.{bit, on, off, ones, from}
use Rattle.rules.specs.Memory.{card_at, masks_of, desk_of, store_of}
use Rattle.rules.specs.Sound.{same, last_word_ok, n_in_range, all_zero, all_hold, head_rules, card_rules, sound}
use Rattle.rules.proofs.Bits.{bit-ones}
use Rattle.numbers.specs.Head.{high_bits}
use Rattle.desk.specs.Tickets.{Unscanned, NoneFrom}
use Rattle.soundness.specs.Cards.{card_holds, cards_hold}
use Rattle.joins.proofs.Bools.{and_left, and_right}
use Rattle.soundness.proofs.Every.{every_at}
use Rattle.soundness.proofs.HeadRules.{head_is}
use Rattle.soundness.proofs.Sound.{sound_is}

-- a bit from n up, of a mask whose bits from n up are those of all ones
bit-from : (n x i : ℕ) → n ≤ i → bit x i ≡ from n x / 2 ^ (i - n) % 2
unfolding bit from
bit-from n x i h = let e : n + (i - n) ≡ i = omega arith in rw (shr-shr x n (i - n), e) refl

high_on : (n x i : ℕ) → from n x ≡ from n (ones 64) → n ≤ i → i < 64 → bit x i ≡ 1
high_on n x i e h k = bit-from n x i h ∙ rw e (sym (bit-from n (ones 64) i h)) ∙ bit-ones 64 i k

module _ (d t s : List ℕ) (ok : sound (store_of d t s) ≡ true) where
  both : all_hold (head_rules (desk_of d) (length t / 64) (length s / 64)) && cards_hold d (length t / 64) (length s / 64) ≡ true
  both = sym (sound_is d t s) ∙ ok

  head_holds : all_hold (head_rules (desk_of d) (length t / 64) (length s / 64)) ≡ true
  head_holds = and_left (all_hold (head_rules (desk_of d) (length t / 64) (length s / 64))) _ both

  head_parts : n_in_range (u32_at d 0) && (eqb (u32_at d 4) (length t / 64) && (eqb (u32_at d 8) (length s / 64) && (all_zero (field 24 40 d) && high_bits (u32_at d 0) (masks_of d)))) ≡ true
  head_parts = head_is d (length t / 64) (length s / 64) ∙ head_holds

  pub n_most : u32_at d 0 ≤ 64
  n_most = leb-true (u32_at d 0) 64 (and_right (leb 1 (u32_at d 0)) _ (and_left (n_in_range (u32_at d 0)) _ head_parts))

  high_active : from (u32_at d 0) (u64_at d 24) ≡ from (u32_at d 0) (ones 64)
  high_active =
      eqb-true (from (u32_at d 0) (u64_at d 24)) (from (u32_at d 0) (ones 64))
      (and_left _ _
      (and_right (eqb (from (u32_at d 0) (u64_at d 16)) 0) _
      (and_right (all_zero (field 24 40 d)) _ (and_right (eqb (u32_at d 8) (length s / 64)) _ (and_right (eqb (u32_at d 4) (length t / 64)) _ (and_right (n_in_range (u32_at d 0)) _ head_parts))))))

  card-holds : (p : ℕ) → p < 64 → all_hold (card_rules (masks_of d) (length t / 64) (length s / 64) (u32_at d 12) (card_at d p) p) ≡ true
  unfolding card_holds
  card-holds p h =
      every_at (card_holds d (masks_of d) (length t / 64) (length s / 64) (u32_at d 12)) 0 64
      (and_right (all_hold (head_rules (desk_of d) (length t / 64) (length s / 64))) _ both) p (omega arith) (omega arith)

  -- the card of a position with active bit 1 bears no ticket
  free-idle : (k g : ℕ) → (g ≡ 0 → ⊥) → k < 64 → bit (u64_at d 24) k ≡ 1 → u32_at d (64 + k * 16) ≡ g → ⊥
  unfolding card_rules all_hold
  free-idle k g z hi one e =
      let a : on (masks_of d).active k ≡ true = eq-eqb _ _ one in
      let c = and_left (same (eqb (u32_at d (64 + k * 16)) 0) (on (masks_of d).active k)) _ (card-holds k hi) in
      z (sym e ∙ eqb-true (u32_at d (64 + k * 16)) 0 (idle (eqb (u32_at d (64 + k * 16)) 0) (rw a at c)))
    where
      idle : (b : Bool) → same b true ≡ true → b ≡ true
      idle true h = refl
      idle false h = h

  -- no card from N up bears one
  pub high_idle : (k g : ℕ) → (g ≡ 0 → ⊥) → u32_at d 0 ≤ k → k < 64 → u32_at d (64 + k * 16) ≡ g → ⊥
  high_idle k g z lo hi e = free-idle k g z hi (high_on (u32_at d 0) (masks_of d).active k high_active lo hi) e

  -- where no scan runs no card does
  pub none_busy : (g : ℕ) → (g ≡ 0 → ⊥) → Unscanned d → NoneFrom d g 0
  none_busy g z all k lo hi e = free-idle k g z hi (ap (λ (x : ℕ). bit x k) all ∙ bit-ones 64 k hi) e

  -- the card of a running scan
  module _ (p : ℕ) (below : p < 64) (busy : (card_at d p).ticket.0 ≡ 0 → ⊥) where
    busy_holds_lem : leb (card_at d p).ticket.0 (u32_at d 12)
        && (leb (card_at d p).place (length t / 64 + length s / 64)
        && (same (ltb (card_at d p).place (length t / 64)) (off (masks_of d).local p) && (leb (card_at d p).handed (card_at d p).place && (last_word_ok (card_at d p).rest && true)))) ≡ true
    unfolding card_rules all_hold
    busy_holds_lem = and_right (not (on (masks_of d).active p)) _ (rw (ne_eqb (card_at d p).ticket.0 0 busy) at (card-holds p below))

    pub place_most : (card_at d p).place ≤ length t / 64 + length s / 64
    place_most = leb-true (card_at d p).place (length t / 64 + length s / 64) (and_left _ _ (and_right (leb (card_at d p).ticket.0 (u32_at d 12)) _ busy_holds_lem))

    pub handed_most : (card_at d p).handed ≤ (card_at d p).place
    handed_most =
        leb-true (card_at d p).handed (card_at d p).place
        (and_left _ _
        (and_right (same (ltb (card_at d p).place (length t / 64)) (off (masks_of d).local p)) _
        (and_right (leb (card_at d p).place (length t / 64 + length s / 64)) _ (and_right (leb (card_at d p).ticket.0 (u32_at d 12)) _ busy_holds_lem))))
