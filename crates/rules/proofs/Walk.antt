-- The walk of next, turn by turn, and as one induction: what holds before the first look holds after the last.
use mathlib.Core.Path.{◌≡◌, refl, sym, subst}
use mathlib.Core.Bool.{Bool, true, false}
use mathlib.Core.Option.{Option, none, some}
use mathlib.Core.List.{List}
use Prim.Native.Nat.{ℕ, zero, suc}
use Rattle.rules.specs.Answers.{Answer, Draw}
use Rattle.rules.specs.Calls.{card_of}
use Rattle.rules.specs.Memory.{Slot, Store, version}
use Rattle.rules.specs.Next.{Told, told, look, at_end, finish, walk}

pub walk_stop : (S : Store) (p b l : ℕ) (o : List ℕ) → at_end S p ≡ true → walk S p b l o ≡ told (Answer.drew (Draw.finished l b (card_of S p).handed)) (finish S p) o
unfolding walk
walk_stop S p zero l o e = rw (e, walk) refl
walk_stop S p (suc b) l o e = rw (e, walk) refl

pub walk-rest : (S : Store) (p l : ℕ) (o : List ℕ) → at_end S p ≡ false → walk S p zero l o ≡ told (Answer.drew (Draw.paused l)) S o
unfolding walk
walk-rest S p l o e = rw (e, walk) refl

unfoldable pub walk_on : Store → ℕ → ℕ → ℕ → List ℕ → Option Slot → Told
walk_on S p b l o none = walk S p b (suc l) o
walk_on S p b l o (some v) = told (Answer.drew (Draw.in_hand (suc l) b)) S (version v)

pub walk_on_lem : (S : Store) (p b l : ℕ) (o : List ℕ) → at_end S p ≡ false → walk S p (suc b) l o ≡ walk_on (look S p).0 p b l o (look S p).1
unfolding walk walk_on
walk_on_lem S p b l o e = rw (e, walk) (go (look S p).1)
  where
    go : (x : Option Slot) → elim x as (λ y. Told) [ none ↦ walk (look S p).0 p b (suc l) o | some v ↦ told (Answer.drew (Draw.in_hand (suc l) b)) (look S p).0 (version v) ] ≡ walk_on (look S p).0 p b l o x
    go none = refl
    go (some v) = refl

-- P: of the store, the looks made and the budget left
module _ (p : ℕ) (o : List ℕ) (P : Store → ℕ → ℕ → Type 0) (Q : Told → Type 0)
    (stop : (S : Store) (l b : ℕ) → P S l b → at_end S p ≡ true → Q (told (Answer.drew (Draw.finished l b (card_of S p).handed)) (finish S p) o))
    (rest : (S : Store) (l : ℕ) → P S l 0 → at_end S p ≡ false → Q (told (Answer.drew (Draw.paused l)) S o))
    (pass : (S : Store) (l b : ℕ) → P S l (suc b) → at_end S p ≡ false → (look S p).1 ≡ none → P (look S p).0 (suc l) b)
    (hit : (S : Store) (l b : ℕ) (v : Slot) → P S l (suc b) → at_end S p ≡ false → (look S p).1 ≡ some v → Q (told (Answer.drew (Draw.in_hand (suc l) b)) (look S p).0 (version v))) where
  pub walk_ind : (b : ℕ) (S : Store) (l : ℕ) → P S l b → Q (walk S p b l o)
  unfolding walk_on
  walk_ind zero S l h = go (at_end S p) refl
    where
      go : (e : Bool) → at_end S p ≡ e → Q (walk S p zero l o)
      go true e = subst Q (sym (walk_stop S p zero l o e)) (stop S l zero h e)
      go false e = subst Q (sym (walk-rest S p l o e)) (rest S l h e)
  walk_ind (suc b) S l h = go (walk_ind b) (at_end S p) refl
    where
      more : ((S : Store) (l : ℕ) → P S l b → Q (walk S p b l o)) → at_end S p ≡ false → (x : Option Slot) → (look S p).1 ≡ x → Q (walk_on (look S p).0 p b l o x)
      more ih e none f = ih (look S p).0 (suc l) (pass S l b h e f)
      more ih e (some v) f = hit S l b v h e f

      go : ((S : Store) (l : ℕ) → P S l b → Q (walk S p b l o)) → (e : Bool) → at_end S p ≡ e → Q (walk S p (suc b) l o)
      go ih true e = subst Q (sym (walk_stop S p (suc b) l o e)) (stop S l (suc b) h e)
      go ih false e = subst Q (sym (walk_on_lem S p b l o e)) (more ih e (look S p).1 refl)
