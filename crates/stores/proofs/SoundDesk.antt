-- A sound desk, fact by fact.
use mathlib.Core.Path.{◌≡◌, refl, sym, ap, ◌∙◌, subst}
use mathlib.Core.Bool.{Bool, true, false, ◌&&◌, false≢true}
use mathlib.Core.List.{List, [], ◌∷◌, ◌++◌}
use mathlib.Core.Logic.{◌⊎◌, inl, inr}
use Prim.Native.Nat.{ℕ, zero, suc, ◌+◌, ◌≤◌, ◌<◌}
use native.Mathlib.Nat.{add-suc, suc-add, add-zero, zero-add}
use native.Mathlib.Omega.{arith}
use lib.Dec.{ltb, leb, eqb}
use lib.ListN.{length, get_or}
use borrow.Author.Tests.{leb-true, eqb-true, eqb-false, le-leb, eq-eqb, ne_eqb}
use Rattle.rules.specs.declared.Card.{Card}
use Rattle.rules.specs.Masks.{Masks, bit, on, off, ones, from}
use Rattle.rules.specs.Memory.{idle, Desk, Store, T, R}
use Rattle.rules.specs.Sound.{Field, Rules, all_hold, same, all_zero, n_in_range, last_word_ok, head_rules, idle_rules, busy_rules, either, card_rules, cards_rules, desk_rules, sound}
use Rattle.rules.proofs.Bits.{bit_low}
use Rattle.rules.proofs.Soundness.{holds-append}

-- the rules of a list, each of them
abbrev Facts : Rules → Type 0
Facts [] = Unit
Facts (r ∷ rs) = (r.0 ≡ true) × Facts rs

to_facts : (rs : Rules) → all_hold rs ≡ true → Facts rs
unfolding all_hold
to_facts [] e = tt
to_facts (r ∷ rs) e = go r.0 refl (to_facts rs)
  where
    go : (b : Bool) → r.0 ≡ b → (all_hold rs ≡ true → Facts rs) → (r.0 ≡ true) × Facts rs
    go true q ih = (q, ih (sym (ap (λ (x : Bool). x && all_hold rs) q) ∙ e))
    go false q ih = absurd (false≢true (sym (ap (λ (x : Bool). x && all_hold rs) q) ∙ e))

of_facts : (rs : Rules) → Facts rs → all_hold rs ≡ true
unfolding all_hold
of_facts [] f = refl
of_facts (r ∷ rs) f = rw (f.0, of_facts rs f.1) refl

of_two : (a b : Rules) → all_hold a ≡ true → all_hold b ≡ true → all_hold (a ++ b) ≡ true
of_two a b p q = holds-append a b ∙ rw (p, q) refl

to_two : (a b : Rules) → all_hold (a ++ b) ≡ true → (all_hold a ≡ true) × (all_hold b ≡ true)
to_two a b e = go (all_hold a) refl (all_hold b) refl (sym (holds-append a b) ∙ e)
  where
    go : (x : Bool) → all_hold a ≡ x → (y : Bool) → all_hold b ≡ y → all_hold a && all_hold b ≡ true → (all_hold a ≡ true) × (all_hold b ≡ true)
    go true p true q f = (p, q)
    go true p false q f = absurd (false≢true (sym q ∙ sym (ap (λ (x : Bool). x && all_hold b) p) ∙ f))
    go false p y q f = absurd (false≢true (sym (ap (λ (x : Bool). x && all_hold b) p) ∙ f))

pub same_is : (a b : Bool) → same a b ≡ true → a ≡ b
same_is true b e = sym e
same_is false true e = absurd (false≢true e)
same_is false false e = refl

pub is_same : (a b : Bool) → a ≡ b → same a b ≡ true
is_same true true e = refl
is_same true false e = sym e
is_same false true e = e
is_same false false e = refl

-- "N is 1 to 64."
pub range : (n : ℕ) → n_in_range n ≡ true → (1 ≤ n) × (n ≤ 64)
range n e = go (leb 1 n) refl (leb n 64) refl
  where
    go : (a : Bool) → leb 1 n ≡ a → (b : Bool) → leb n 64 ≡ b → (1 ≤ n) × (n ≤ 64)
    go true p true q = (leb-true 1 n p, leb-true n 64 q)
    go true p false q = absurd (false≢true (sym (rw (p, q) refl) ∙ e))
    go false p b q = absurd (false≢true (sym (rw p refl) ∙ e))

-- ---- a card

pub record Idle (m : Masks) (c : Card) (i : ℕ) : Type 0 where
  pub none : c ≡ idle
  pub active : bit m.active i ≡ 1
  pub local : bit m.local i ≡ 1

pub record Busy (m : Masks) (t r last : ℕ) (c : Card) (i : ℕ) : Type 0 where
  pub ticket : 1 ≤ c.ticket.0
  pub given : c.ticket.0 ≤ last
  pub active : bit m.active i ≡ 0
  pub place : c.place ≤ t + r
  pub local : ltb c.place t ≡ off m.local i
  pub handed : c.handed ≤ c.place
  pub rest : last_word_ok c.rest ≡ true

abbrev pub CardSound : Masks → ℕ → ℕ → ℕ → Card → ℕ → Type 0
CardSound m t r last c i = Idle m c i ⊎ Busy m t r last c i

pub record Sound (d : Desk) (t r : ℕ) : Type 0 where
  pub n : n_in_range d.n ≡ true
  pub is_t : d.t ≡ t
  pub is_r : d.r ≡ r
  pub zeros : all_zero d.zeros ≡ true
  pub stable : from d.n d.masks.stable ≡ 0
  pub active : from d.n d.masks.active ≡ from d.n (ones 64)
  pub local : from d.n d.masks.local ≡ from d.n (ones 64)
  pub cards : (i : ℕ) → i < length d.cards → CardSound d.masks t r d.last (get_or d.cards i idle) i

on_off : (x i : ℕ) → on x i ≡ false → bit x i ≡ 0
on_off x i e = omega (arith, bit_low x i, eqb-false (bit x i) 1 e)

module _ (m : Masks) (t r last : ℕ) where
  to_card : (c : Card) (i : ℕ) → all_hold (card_rules m t r last c i) ≡ true → CardSound m t r last c i
  unfolding card_rules
  to_card c i h = go (eqb c.ticket.0 0) refl
    where
      all : Facts ((same (eqb c.ticket.0 0) (on m.active i), Field.at_ticket i) ∷ either (eqb c.ticket.0 0) (idle_rules m c i) (busy_rules m t r last c i))
      all = to_facts _ h

      act : eqb c.ticket.0 0 ≡ on m.active i
      act = same_is (eqb c.ticket.0 0) (on m.active i) all.0

      busy : Facts (busy_rules m t r last c i) → eqb c.ticket.0 0 ≡ false → CardSound m t r last c i
      busy q e =
          let z : c.ticket.0 ≡ 0 → ⊥ = eqb-false c.ticket.0 0 e in
          inr (record {
            ticket = some c.ticket.0 z;
            given = leb-true c.ticket.0 last q.0;
            active = on_off m.active i (sym act ∙ e);
            place = leb-true c.place (t + r) q.1.0;
            local = same_is (ltb c.place t) (off m.local i) q.1.1.0;
            handed = leb-true c.handed c.place q.1.1.1.0;
            rest = q.1.1.1.1.0;
          })
        where
          some : (x : ℕ) → (x ≡ 0 → ⊥) → 1 ≤ x
          some x z = omega arith

      resting : Facts (idle_rules m c i) → eqb c.ticket.0 0 ≡ true → CardSound m t r last c i
      resting q e =
          let p : c.place ≡ 0 = eqb-true c.place 0 q.0 in
          let g : c.handed ≡ 0 = eqb-true c.handed 0 q.1.0 in
          let w : c.rest ≡ 0 = eqb-true c.rest 0 q.1.1.0 in
          let k : c.ticket.0 ≡ 0 = eqb-true c.ticket.0 0 e in
          inl (record { none = λ j. record { ticket = record { 0 = k j }; place = p j; handed = g j; rest = w j }; active = eqb-true (bit m.active i) 1 (sym act ∙ e); local = eqb-true (bit m.local i) 1 q.1.1.1.0 })

      go : (b : Bool) → eqb c.ticket.0 0 ≡ b → CardSound m t r last c i
      go true e = resting (subst (λ (b : Bool). Facts (either b (idle_rules m c i) (busy_rules m t r last c i))) e all.1) e
      go false e = busy (subst (λ (b : Bool). Facts (either b (idle_rules m c i) (busy_rules m t r last c i))) e all.1) e

  of_card : (c : Card) (i : ℕ) → CardSound m t r last c i → all_hold (card_rules m t r last c i) ≡ true
  unfolding card_rules all_hold
  of_card c i (inl q) = rw (q.none, q.active, q.local) refl
  of_card c i (inr q) =
      rw (
        ne_eqb c.ticket.0 0 (λ z. omega (arith, q.ticket)),
        q.active,
        le-leb c.ticket.0 last q.given,
        le-leb c.place (t + r) q.place,
        is_same (ltb c.place t) (off m.local i) q.local,
        le-leb c.handed c.place q.handed,
        q.rest,
      ) refl

  to_cards : (cs : List Card) (i : ℕ) → all_hold (cards_rules m t r last cs i) ≡ true → (j : ℕ) → j < length cs → CardSound m t r last (get_or cs j idle) (i + j)
  unfolding cards_rules
  to_cards [] i h j q = absurd (omega arith)
  to_cards (c ∷ cs) i h zero q = rw (add-zero i) (to_card c i (to_two (card_rules m t r last c i) (cards_rules m t r last cs (suc i)) h).0)
  to_cards (c ∷ cs) i h (suc j) q =
      let z : suc i + j ≡ i + suc j = suc-add i j ∙ sym (add-suc i j) in
      rw z at (to_cards cs (suc i) (to_two (card_rules m t r last c i) (cards_rules m t r last cs (suc i)) h).1 j (omega arith))

  of_cards : (cs : List Card) (i : ℕ) → ((j : ℕ) → j < length cs → CardSound m t r last (get_or cs j idle) (i + j)) → all_hold (cards_rules m t r last cs i) ≡ true
  unfolding cards_rules all_hold
  of_cards [] i h = refl
  of_cards (c ∷ cs) i h =
      of_two (card_rules m t r last c i) (cards_rules m t r last cs (suc i)) (of_card c i (rw (add-zero i) at (h zero (omega arith))))
      (of_cards cs (suc i) (λ j q. let z : i + suc j ≡ suc i + j = add-suc i j ∙ sym (suc-add i j) in rw z at (h (suc j) (omega arith))))

abbrev cards_of : Store → Rules
cards_of S = cards_rules S.desk.masks (T S) (R S) S.desk.last S.desk.cards 0

pub to_sound : (S : Store) → sound S ≡ true → Sound S.desk (T S) (R S)
unfolding sound desk_rules head_rules
to_sound S e =
    let w = to_two (head_rules S.desk (T S) (R S)) (cards_of S) e in
    let f = to_facts (head_rules S.desk (T S) (R S)) w.0 in
    record {
      n = f.0;
      is_t = eqb-true _ _ f.1.0;
      is_r = eqb-true _ _ f.1.1.0;
      zeros = f.1.1.1.0;
      stable = eqb-true _ _ f.1.1.1.1.0;
      active = eqb-true _ _ f.1.1.1.1.1.0;
      local = eqb-true _ _ f.1.1.1.1.1.1.0;
      cards = λ i q. rw (zero-add i) at (to_cards S.desk.masks (T S) (R S) S.desk.last S.desk.cards 0 w.1 i q);
    }

pub of_sound : (S : Store) → Sound S.desk (T S) (R S) → sound S ≡ true
unfolding sound desk_rules head_rules
of_sound S q =
    of_two (head_rules S.desk (T S) (R S)) (cards_of S)
    (of_facts (head_rules S.desk (T S) (R S))
    (q.n, (eq-eqb _ _ q.is_t, (eq-eqb _ _ q.is_r, (q.zeros, (eq-eqb _ _ q.stable, (eq-eqb _ _ q.active, (eq-eqb _ _ q.local, tt))))))))
    (of_cards S.desk.masks (T S) (R S) S.desk.last S.desk.cards 0 (λ j k. rw (zero-add j) (q.cards j k)))
