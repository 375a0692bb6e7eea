-- "The desk is sound when all of this holds, tested in this order": the rules, each with the field that it speaks of.
use Rattle.std.specs.Prelude.{Bool, true, false, not, ◌&&◌, List, [], ◌∷◌, ◌++◌, ℕ, suc, ◌+◌, ltb, leb, eqb}
use Rattle.std.proofs.Math.Option.{Option, none, some}
use Rattle.rules.specs.declared.Card.{Card}
use Rattle.rules.specs.Masks.{Masks, on, off, ones, from}
use Rattle.rules.specs.Memory.{Desk, Store, T, R}

-- a field of the desk; those of a card with its position
pub data Field : Type 0 where
  at_n at_t at_r at_zeros at_stable at_active at_local : Field
  at_ticket at_place at_handed at_last_word : ℕ → Field

abbrev pub Rules : Type 0
Rules = List (Bool × Field)

unfoldable pub all_hold : Rules → Bool
all_hold [] = true
all_hold (r ∷ rs) = r.0 && all_hold rs

-- the field of the first rule that is broken
unfoldable pub broken : Rules → Option Field
broken [] = none
broken (r ∷ rs) = elim r.0 [ true ↦ broken rs | false ↦ some r.1 ]

-- the one exactly where the other
abbrev pub same : Bool → Bool → Bool
same true b = b
same false b = not b

unfoldable pub all_zero : List ℕ → Bool
all_zero [] = true
all_zero (x ∷ xs) = eqb x 0 && all_zero xs

-- "N is 1 to 64."
abbrev pub n_in_range : ℕ → Bool
n_in_range n = leb 1 n && leb n 64

-- what stands in a card's last four bytes
abbrev pub last_word_ok : ℕ → Bool
last_word_ok w = eqb w 0

-- "N in range; T and R equal to the buffers' slot counts; bytes 40 to 63 zero; bits from N up 0 in the stable mask and 1 in both
-- active masks"
unfoldable pub head_rules : Desk → ℕ → ℕ → Rules
head_rules d slots entries =
    (n_in_range d.n, at_n)
    ∷ (eqb d.t slots, at_t)
    ∷ (eqb d.r entries, at_r)
    ∷ (all_zero d.zeros, at_zeros)
    ∷ (eqb (from d.n d.masks.stable) 0, at_stable)
    ∷ (eqb (from d.n d.masks.active) (from d.n (ones 64)), at_active)
    ∷ (eqb (from d.n d.masks.local) (from d.n (ones 64)), at_local)
    ∷ []

-- "a card with ticket 0 is all zero and its local active bit is 1"
abbrev pub idle_rules : Masks → Card → ℕ → Rules
idle_rules m c i =
    (eqb c.place 0, at_place i)
    ∷ (eqb c.handed 0, at_handed i)
    ∷ (eqb c.rest 0, at_last_word i)
    ∷ (on m.local i, at_place i)
    ∷ []

-- "a busy card has ticket at most the last one given, place at most T + R, place below T exactly where the local active bit is 0,
-- handed at most place, and last four bytes zero"
abbrev pub busy_rules : Masks → ℕ → ℕ → ℕ → Card → ℕ → Rules
busy_rules m slots entries last c i =
    (leb c.ticket.0 last, at_ticket i)
    ∷ (leb c.place (slots + entries), at_place i)
    ∷ (same (ltb c.place slots) (off m.local i), at_place i)
    ∷ (leb c.handed c.place, at_handed i)
    ∷ (last_word_ok c.rest, at_last_word i)
    ∷ []

abbrev pub either : Bool → Rules → Rules → Rules
either true a b = a
either false a b = b

-- "then card by card: ticket 0 exactly where the active bit is 1"
unfoldable pub card_rules : Masks → ℕ → ℕ → ℕ → Card → ℕ → Rules
card_rules m slots entries last c i =
    (same (eqb c.ticket.0 0) (on m.active i), at_ticket i)
    ∷ either (eqb c.ticket.0 0) (idle_rules m c i) (busy_rules m slots entries last c i)

unfoldable pub cards_rules : Masks → ℕ → ℕ → ℕ → List Card → ℕ → Rules
cards_rules m slots entries last [] i = []
cards_rules m slots entries last (c ∷ cs) i = card_rules m slots entries last c i ++ cards_rules m slots entries last cs (suc i)

unfoldable pub desk_rules : Store → Rules
desk_rules S = head_rules S.desk (T S) (R S) ++ cards_rules S.desk.masks (T S) (R S) S.desk.last S.desk.cards 0

unfoldable pub sound : Store → Bool
sound S = all_hold (desk_rules S)
