-- The rules of one card as the code tests them.
use mathlib.Core.Path.{◌≡◌, refl}
use mathlib.Core.Bool.{Bool, true, false, not, ◌&&◌, and-true}
use mathlib.Core.List.{List, [], ◌∷◌}
use Prim.Native.Nat.{ℕ, ◌+◌, ◌*◌}
use native.Mathlib.Omega.{arith}
use lib.Dec.{eqb, leb, ltb}
use Rattle.rules.specs.Bytes.{u32_at}
use Rattle.rules.specs.Masks.{Masks, bit, on, off}
use Rattle.rules.specs.Memory.{card_at}
use Rattle.rules.specs.Sound.{Rules, at_ticket, at_place, at_handed, at_last_word, same, last_word_ok, either, all_hold, idle_rules, busy_rules, card_rules}
use Rattle.soundness.specs.Words.{zero_card}
use Rattle.numbers.specs.Busy.{busy_holds}
use Rattle.soundness.specs.Cards.{card_holds}
use Rattle.soundness.proofs.Zeros.{word_zero}

idle_tests : (rs : Rules) (i : ℕ) (k p h w o : Bool)
    → all_hold ((same k true, at_ticket i) ∷ either k ((p, at_place i) ∷ (h, at_handed i) ∷ (w, at_last_word i) ∷ (o, at_place i) ∷ []) rs) ≡ ((k && p) && (h && w)) && o
unfolding all_hold
idle_tests rs i false p h w o = refl
idle_tests rs i true false h w o = refl
idle_tests rs i true true false w o = refl
idle_tests rs i true true true false o = refl
idle_tests rs i true true true true o = and-true o

busy_tests : (rs : Rules) (i : ℕ) (k a b c d e : Bool)
    → all_hold ((same k false, at_ticket i) ∷ either k rs ((a, at_ticket i) ∷ (b, at_place i) ∷ (c, at_place i) ∷ (d, at_handed i) ∷ (e, at_last_word i) ∷ []))
    ≡ not k && (a && (b && (c && (d && e))))
unfolding all_hold
busy_tests rs i true a b c d e = refl
busy_tests rs i false a b c d e = rw (and-true e) refl

module _ (d : List ℕ) (m : Masks) (t r last i : ℕ) where
  -- an idle position: the two words of its card, and its local active bit
  pub idle_is : bit m.active i ≡ 1
      → card_holds d m t r last i ≡ zero_card d i && on m.local i
  unfolding card_holds card_rules
  idle_is o =
      let a : (8 + i * 2) * 8 ≡ 64 + i * 16 = omega arith in
      let b : (8 + i * 2 + 1) * 8 ≡ 64 + i * 16 + 8 = omega arith in
      let e : 64 + i * 16 + 8 + 4 ≡ 64 + i * 16 + 12 = omega arith in
      rw (a, b, word_zero d (64 + i * 16), word_zero d (64 + i * 16 + 8), e, o)
      (idle_tests (busy_rules m t r last (card_at d i) i) i (eqb (u32_at d (64 + i * 16)) 0) (eqb (u32_at d (64 + i * 16 + 4)) 0) (eqb (u32_at d (64 + i * 16 + 8)) 0)
      (eqb (u32_at d (64 + i * 16 + 12)) 0) (on m.local i))

  -- a busy one
  pub busy_is : bit m.active i ≡ 0 → card_holds d m t r last i ≡ busy_holds (card_at d i) (off m.local i) last t r
  unfolding card_holds card_rules busy_holds
  busy_is o =
      let c = card_at d i in
      rw o
      (busy_tests (idle_rules m c i) i (eqb c.ticket.0 0) (leb c.ticket.0 last) (leb c.place (t + r))
      (same (ltb c.place t) (off m.local i)) (leb c.handed c.place) (last_word_ok c.rest))
