-- The stores of document 01 with that one fault, of the store and of a record, are such stores: they meet neither demand 2 nor demand 3.
use mathlib.Core.Path.{◌≡◌, refl, sym, ap, ◌∙◌, subst}
use mathlib.Core.Bool.{Bool, true, false, false≢true}
use mathlib.Core.Option.{Option, none, some}
use mathlib.Core.List.{List, [], ◌∷◌}
use mathlib.Core.Logic.{◌⊎◌, inl, inr}
use Prim.Native.Nat.{ℕ, zero, suc, ◌≤◌}
use native.Mathlib.Omega.{arith}
use lib.Dec.{eqb}
use borrow.Author.Tests.{eqb-true, eq-eqb, ne_eqb}
use Rattle.demands.specs.DemandOne.{SameLengths}
use Rattle.demands.specs.DemandThree.{Demand3}
use Rattle.demands.specs.DemandTwo.{Demand2}
use Rattle.wrong.specs.FirstChangeOnly.{unshelved, of_store, of_record, at_first, shelves_first, shelving, first_change_only}
use Rattle.idle.specs.Idle.{OnShelf, change, Changes, Later, ShelvesFirstOnly}
use Rattle.wrong.specs.Ways.{effect_by, replied_by, called_by}
use Rattle.rules.specs.Passed.{Well, LentBytes}
use Rattle.rules.specs.Answers.{Answer}
use Rattle.rules.specs.Calls.{slot_in, in_use, used, bearing, changed_by, count}
use Rattle.rules.specs.Memory.{Lent, Slot, free, Store, slots_of, store_of, read, written}
use Rattle.rules.specs.Refusals.{Call, Change, Reply, own_right, first_of, looks_at_desk, refusals, changes_to, effect, replied, called}
use Rattle.rules.proofs.RoundTrip.{written_read}
use Rattle.stores.proofs.ChangesFine.{Writes, changed_fine}
use Rattle.demands.proofs.page.DemandOne.{Accepted, accepted, read_fine, written-lengths, demand_1}
use Rattle.demands.proofs.page.Lives.{accepted_is}
use Rattle.stores.proofs.OnePosition.{Fine}
use Rattle.wrong.proofs.Ours.{same_effect, same-reply}
use Rattle.idle.proofs.ShelvesFirstOnly.{ours-accepts, l₄, c₅, shelves_first_only_caught, shelves_first_only_caught_3}
use Rattle.demands.proofs.machines.Small.{body_of}
use Rattle.stores.proofs.Spelling.{to_right, written-bytes, both_true}
use Rattle.stores.proofs.Stays.{changed_kept}

-- ---- counts of entries

fewer : (p q : Slot → Bool) → ((s : Slot) → p s ≡ true → q s ≡ true) → (l : List Slot) → count p l ≤ count q l
unfolding count
fewer p q f [] = omega arith
fewer p q f (x ∷ l) = go (p x) refl (q x) refl (fewer p q f l)
  where
    go : (b : Bool) → p x ≡ b → (c : Bool) → q x ≡ c → count p l ≤ count q l
        → elim b as (λ y. ℕ) [ true ↦ suc (count p l) | false ↦ count p l ] ≤ elim c as (λ y. ℕ) [ true ↦ suc (count q l) | false ↦ count q l ]
    go true e true d h = omega arith
    go true e false d h = absurd (false≢true (sym d ∙ f x e))
    go false e true d h = omega arith
    go false e false d h = h

counted : (p : Slot → Bool) (l : List Slot) (i : ℕ) → (p free ≡ true → ⊥) → p (slot_in l i) ≡ true → 1 ≤ count p l
unfolding count
counted p [] i e f = absurd (e f)
counted p (x ∷ l) i e f = go (p x) refl i f (λ j. counted p l j e)
  where
    go : (b : Bool) → p x ≡ b → (i : ℕ) → p (slot_in (x ∷ l) i) ≡ true → ((j : ℕ) → p (slot_in l j) ≡ true → 1 ≤ count p l) → 1 ≤ elim b as (λ y. ℕ) [ true ↦ suc (count p l) | false ↦ count p l ]
    go true q i f ih = omega arith
    go false q zero f ih = absurd (false≢true (sym q ∙ f))
    go false q (suc i) f ih = ih i f

-- ---- one store or the other

while_none : (n : ℕ) (X Y : Store) → (1 ≤ n → ⊥) → at_first n X Y ≡ X
while_none zero X Y q = refl
while_none (suc n) X Y q = absurd (q (omega arith))

once_some : (n : ℕ) (X Y : Store) → 1 ≤ n → at_first n X Y ≡ Y
once_some zero X Y h = absurd (omega arith)
once_some (suc n) X Y h = refl

one_of : (n : ℕ) (X Y : Store) → (at_first n X Y ≡ X) ⊎ (at_first n X Y ≡ Y)
one_of zero X Y = inl refl
one_of (suc n) X Y = inr refl

looks : (k : ℕ) (b : Option (List ℕ)) → looks_at_desk (change k b) ≡ true
unfolding looks_at_desk
looks k none = refl
looks k (some b) = refl

writes : (k : ℕ) (b : Option (List ℕ)) → Well (change k b) → own_right (change k b) ≡ true → Writes b
unfolding own_right
writes k none w e = tt
writes k (some b) w e = (eqb-true _ _ e, w.1)

-- bytes, of the lengths that were lent
abbrev Kept : Lent → Lent → Type 0
Kept l m = LentBytes m × SameLengths l m

-- what a change leaves that shelves nothing
record Left (l m : Lent) : Type 0 where
  shelf : m.shelf ≡ l.shelf
  kept : Kept l m

-- the entries are in use, and those of record k are among them
module _ (entries : ℕ → Slot → Bool) (used_entries : (k : ℕ) (s : Slot) → entries k s ≡ true → in_use s ≡ true) (own : (k : ℕ) (s : Slot) → 1 ≤ k → s.number ≡ k → entries k s ≡ true) where
  -- ---- any other call is document 01's

  same-change : (S : Store) (d : Change) → (Changes (Call.change d) × (1 ≤ used S.shelf) → ⊥) → shelves_first entries S d ≡ changes_to S d
  unfolding shelves_first
  same-change S (Change.insert k b) q = refl
  same-change S (Change.modify k b) q = while_none (count (entries k) S.shelf) _ _ (λ h. q (tt, omega (arith, h, fewer (entries k) in_use (used_entries k) S.shelf)))
  same-change S (Change.delete k) q = while_none (count (entries k) S.shelf) _ _ (λ h. q (tt, omega (arith, h, fewer (entries k) in_use (used_entries k) S.shelf)))

  same : (l : Lent) (c : Call) → (Later l c → ⊥) → first_change_only entries l c ≡ called l c
  unfolding called_by called store_of
  same l c q = same-reply (shelving entries) l c (same_effect refusals (shelves_first entries) (read l) c (λ d e. same-change (read l) d (λ z. q (subst Changes (sym e) z.0, z.1)))) (first_of (refusals l c))

  -- ---- a change shelves nothing where there are such entries

  module _ (l : Lent) (k : ℕ) (b : Option (List ℕ)) (a : LentBytes l) (h : Well (change k b)) where
    abbrev shut : ℕ
    shut = count (entries k) (slots_of l.shelf)

    effect_is : (effect_by (shelving entries) (read l) (change k b)).after ≡ at_first shut (effect (read l) (change k b)).after (unshelved (read l) k b)
    unfolding effect_by effect shelves_first store_of
    effect_is = go b
      where
        go : (b : Option (List ℕ)) → (effect_by (shelving entries) (read l) (change k b)).after ≡ at_first shut (effect (read l) (change k b)).after (unshelved (read l) k b)
        go none = refl
        go (some x) = refl

    left : Accepted l (change k b) → Left l (written (unshelved (read l) k b))
    unfolding store_of changed_by written
    left z =
        let i = bearing (read l).table k in
        let x : Fine (changed_by true (read l) i b) = changed_fine true (read l) (read_fine l a z.lengths (z.desk (looks k b))) i b (writes k b h z.own) in
        record {
          shelf = ap (λ (m : Lent). m.shelf) (written_read l (to_right l a z.lengths));
          kept = (written-bytes (changed_by true (read l) i b) x.sized, written-lengths l (changed_by true (read l) i b) z.lengths x.sized (changed_kept true (read l) i b));
        }

    leaves : OnShelf l k → (first_change_only entries l (change k b)).after.shelf ≡ l.shelf
    unfolding called_by replied_by
    leaves z = go (first_of (refusals l (change k b))) refl
      where
        some_own : 1 ≤ shut
        some_own = counted (entries k) (slots_of l.shelf) z.1.0 (λ e. false≢true (used_entries k free e)) (own k (slot_in (slots_of l.shelf) z.1.0) z.0 z.1.1)

        go : (o : Option ℕ) → first_of (refusals l (change k b)) ≡ o → (replied_by (shelving entries) o l (change k b)).after.shelf ≡ l.shelf
        go none e = ap (λ (X : Store). (written X).shelf) (effect_is ∙ once_some shut _ _ some_own) ∙ (left (accepted l (change k b) e)).shelf
        go (some x) e = refl

    -- whichever store it leaves
    kept : Kept l (first_change_only entries l (change k b)).after
    unfolding called_by replied_by
    kept = go (first_of (refusals l (change k b))) refl
      where
        by : first_of (refusals l (change k b)) ≡ none → (X : Store) → (X ≡ (effect (read l) (change k b)).after) ⊎ (X ≡ unshelved (read l) k b) → Kept l (written X)
        by e X (inl f) = subst (λ (m : Lent). Kept l m) (ap (λ (r : Reply). r.after) (accepted_is l (change k b) e) ∙ ap written (sym f)) (demand_1.bytes l (change k b) a h, demand_1.lengths l (change k b) a h)
        by e X (inr f) = subst (λ (Y : Store). Kept l (written Y)) (sym f) (left (accepted l (change k b) e)).kept

        go : (o : Option ℕ) → first_of (refusals l (change k b)) ≡ o → Kept l (replied_by (shelving entries) o l (change k b)).after
        go none e = by e (effect_by (shelving entries) (read l) (change k b)).after (subst (λ (X : Store). (X ≡ (effect (read l) (change k b)).after) ⊎ (X ≡ unshelved (read l) k b)) (sym effect_is) (one_of shut (effect (read l) (change k b)).after (unshelved (read l) k b)))
        go (some x) e = (a, record { desk = refl; table = refl; shelf = refl })

  pub first_change_only_is : ShelvesFirstOnly (first_change_only entries)
  first_change_only_is =
      record {
        otherwise = λ l c a h q. same l c q;
        leaves = leaves;
        bytes = λ l k b a h. (kept l k b a h).0;
        lengths = λ l k b a h. (kept l k b a h).1;
      }

-- ---- of the store, and of a record

pub of_store_is : ShelvesFirstOnly (first_change_only of_store)
of_store_is = first_change_only_is of_store (λ k s e. e) (λ k s low e. rw (e, ne_eqb k 0 (λ z. omega arith)) refl)

pub of_record_is : ShelvesFirstOnly (first_change_only of_record)
of_record_is = first_change_only_is of_record (λ k s e. (both_true (in_use s) (eqb s.number k) e).0) (λ k s low e. rw (e, ne_eqb k 0 (λ z. omega arith), eq-eqb k k refl) refl)

-- ---- so neither meets demand 2 or demand 3

pub of_store_fails_2 : Demand2 (first_change_only of_store) → ⊥
of_store_fails_2 = shelves_first_only_caught (first_change_only of_store) of_store_is

pub of_record_fails_2 : Demand2 (first_change_only of_record) → ⊥
of_record_fails_2 = shelves_first_only_caught (first_change_only of_record) of_record_is

-- it accepts a change that document 01 accepts
done_too : (entries : ℕ → Slot → Bool) (l : Lent) (d : Change) → (called l (Call.change d)).answer ≡ Answer.done → (first_change_only entries l (Call.change d)).answer ≡ Answer.done
unfolding called_by called replied_by replied effect_by
done_too entries l d = go (first_of (refusals l (Call.change d)))
  where
    go : (o : Option ℕ) → (replied o l (Call.change d)).answer ≡ Answer.done → (replied_by (shelving entries) o l (Call.change d)).answer ≡ Answer.done
    go none e = refl
    go (some k) e = e

second_done : (entries : ℕ → Slot → Bool) → (first_change_only entries l₄ c₅).answer ≡ Answer.done
second_done entries = done_too entries l₄ (Change.modify 1 (body_of 3)) ours-accepts.last

pub of_store_fails_3 : Demand3 (first_change_only of_store) → ⊥
of_store_fails_3 = shelves_first_only_caught_3 (first_change_only of_store) of_store_is (second_done of_store)

pub of_record_fails_3 : Demand3 (first_change_only of_record) → ⊥
of_record_fails_3 = shelves_first_only_caught_3 (first_change_only of_record) of_record_is (second_done of_record)
