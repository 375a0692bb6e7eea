-- What is looked for on the desk, by the bytes that the code reads.
use mathlib.Core.Path.{◌≡◌, refl, sym, ap, ◌∙◌}
use mathlib.Core.Bool.{true, false}
use mathlib.Core.List.{List, []}
use Prim.Native.Nat.{ℕ, ◌+◌, ◌-◌, ◌≤◌, ◌<◌}
use native.Mathlib.Nat.{zero-add}
use native.Mathlib.Omega.{arith}
use lib.Dec.{eqb}
use borrow.Author.Tests.{ne_eqb}
use Rattle.rules.specs.Bytes.{u32_at}
use Rattle.rules.specs.Masks.{on}
use Rattle.rules.specs.Memory.{store_of, desk_of, masks_of, card_at, idle}
use Rattle.rules.specs.Calls.{first, card_of, position_of, free_position}
use Rattle.rules.proofs.Each.{at_each}
use Rattle.rules.proofs.First.{first-same, first-none, first-start, first-hit, first_past, first_split_found, first_split_none}
use Rattle.fours.specs.Between.{Between}
use Rattle.masks.specs.declared.Masks.{Masks}
use Rattle.masks.specs.Held.{held}
use Rattle.desk.specs.Tickets.{ticket_at, bears_ticket, NoneFrom}

-- the lowest position below N with active bit 1
module _ (d : List ℕ) {m : Masks} (em : held m ≡ masks_of d) where
  free_is : first (on m.active) 0 (u32_at d 0) ≡ free_position (store_of d [] [])
  unfolding store_of desk_of
  free_is = rw (ap (λ (x : Rattle.rules.specs.Masks.Masks). x.active) em) refl

  pub free_here : (p : ℕ) → Between (λ j. on m.active j ≡ false) 0 p → p < u32_at d 0 → on m.active p ≡ true → p ≡ free_position (store_of d [] [])
  free_here p past h e =
      sym (first-start (on m.active) (u32_at d 0) ∙ first_past (on m.active) 0 p (u32_at d 0) (omega arith) (omega arith) past ∙ first-hit (on m.active) p (u32_at d 0) h e) ∙ free_is

  pub free_nowhere : Between (λ j. on m.active j ≡ false) 0 (u32_at d 0) → free_position (store_of d [] []) ≡ u32_at d 0
  free_nowhere past = sym free_is ∙ first-none (on m.active) 0 (u32_at d 0) (λ k a b. past k a (omega arith)) ∙ zero-add (u32_at d 0)

-- the lowest position that bears a ticket
module _ (d : List ℕ) (t : ℕ) where
  position_is : first (bears_ticket d t) 0 64 ≡ position_of (store_of d [] []) t
  unfolding store_of desk_of
  position_is =
      first-same (bears_ticket d t) (λ i. eqb (card_of (store_of d [] []) i).ticket.0 t) 0 64
      (λ k a b. sym (ap (λ (c : Rattle.rules.specs.declared.Card.Card). eqb c.ticket.0 t) (at_each (card_at d) 64 k idle (omega arith))))

  pub unscanned : NoneFrom d t 0 → position_of (store_of d [] []) t ≡ 64
  unscanned none = sym position_is ∙ first-none (bears_ticket d t) 0 64 (λ k a b. ne_eqb (ticket_at d k) t (none k a (omega arith))) ∙ zero-add 64

  -- none is looked for from n on, where none bears it
  module _ (n : ℕ) (h : n ≤ 64) (none : NoneFrom d t n) where
    whole : n + (64 - n) ≡ 64
    whole = omega arith

    pub position_found : first (bears_ticket d t) 0 n < n → first (bears_ticket d t) 0 n ≡ position_of (store_of d [] []) t
    position_found lo = sym (first_split_found (bears_ticket d t) 0 n (64 - n) (omega (arith, lo))) ∙ ap (first (bears_ticket d t) 0) whole ∙ position_is

    pub position_nowhere : first (bears_ticket d t) 0 n ≡ n → position_of (store_of d [] []) t ≡ 64
    position_nowhere e =
        sym position_is ∙ sym (ap (first (bears_ticket d t) 0) whole) ∙ first_split_none (bears_ticket d t) 0 n (64 - n) (omega (arith, e))
        ∙ ap (λ k. first (bears_ticket d t) k (64 - n)) (zero-add n)
        ∙ first-none (bears_ticket d t) n (64 - n) (λ k a b. ne_eqb (ticket_at d k) t (none k a (omega arith))) ∙ whole
