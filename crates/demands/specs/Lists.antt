-- Lists: what passes a test, what is there at all, and two lists that hold the same things each as often.
use Rattle.std.specs.Prelude.{Bool, false, ◌||◌, cond, List, [], ◌∷◌}
use Rattle.std.proofs.Math.Option.{Option, none, some}

module _ {A : Type 0} where
  abbrev pub any : (A → Bool) → List A → Bool
  any p [] = false
  any p (a ∷ l) = p a || any p l

  -- those that pass
  abbrev pub those : (A → Bool) → List A → List A
  those p [] = []
  those p (a ∷ l) = cond (p a) (a ∷ those p l) (those p l)

  -- what stands in a row of places, some of them empty
  abbrev pub standing : List (Option A) → List A
  standing [] = []
  standing (none ∷ os) = standing os
  standing (some a ∷ os) = a ∷ standing os

  -- a place whose content stays only if it passes
  abbrev pub keep : (A → Bool) → Option A → Option A
  keep p none = none
  keep p (some a) = cond (p a) (some a) none

  -- the first that passes
  abbrev pub first_that : (A → Bool) → List A → Option A
  first_that p [] = none
  first_that p (a ∷ l) = cond (p a) (some a) (first_that p l)

-- the same things in another order, each as often
pub data Permutation {A : Type 0} : List A → List A → Type 0 where
  empty : Permutation [] []
  next : {a : A} {l m : List A} → Permutation l m → Permutation (a ∷ l) (a ∷ m)
  swap : {a b : A} {l : List A} → Permutation (a ∷ b ∷ l) (b ∷ a ∷ l)
  both : {l m n : List A} → Permutation l m → Permutation m n → Permutation l n
