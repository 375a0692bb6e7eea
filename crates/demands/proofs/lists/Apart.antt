-- Lists of which no two elements bear the same name.
use mathlib.Core.Path.{◌≡◌, refl, sym, ap, ◌∙◌}
use mathlib.Core.Bool.{Bool, true, false, cond}
use mathlib.Core.List.Memᴰ
use mathlib.Core.List.{List, [], ◌∷◌, ◌++◌}
use mathlib.Core.Logic.{◌⊎◌, inl, inr}
use Prim.Native.Nat.{ℕ}
use Rattle.demands.specs.Lists.{those, Permutation}
use Rattle.demands.proofs.lists.Lists.{In, in_left, in_right, those_in, perm_in, back}

module _ {A : Type 0} (name : A → ℕ) where
  abbrev pub Apart : List A → Type 0
  Apart [] = Unit
  Apart (a ∷ l) = ((b : A) → In b l → name b ≡ name a → ⊥) × Apart l

  pub apart_eq : (l : List A) → Apart l → (a b : A) → In a l → In b l → name a ≡ name b → a ≡ b
  apart_eq [] h a b i j e = absurd (Memᴰ.not-nil i)
  apart_eq (x ∷ l) h a b i j e = go (Memᴰ.cases_cons i) (Memᴰ.cases_cons j) (apart_eq l h.1 a b)
    where
      go : (a ≡ x) ⊎ In a l → (b ≡ x) ⊎ In b l → (In a l → In b l → name a ≡ name b → a ≡ b) → a ≡ b
      go (inl p) (inl q) ih = p ∙ sym q
      go (inl p) (inr q) ih = absurd (h.0 b q (sym e ∙ ap name p))
      go (inr p) (inl q) ih = absurd (h.0 a p (e ∙ ap name q))
      go (inr p) (inr q) ih = ih p q e

  pub apart_perm : (l m : List A) → Permutation l m → Apart l → Apart m
  apart_perm l m Permutation.empty h = h
  apart_perm l m (Permutation.next {l = k} {m = n} p) h = ((λ b i. h.0 b (perm_in b n k (back p) i)), apart_perm k n p h.1)
  apart_perm l m (Permutation.swap {a = x} {b = y} {l = k}) h = (first, ((λ b i. h.0 b (Memᴰ.tail i)), h.1.1))
    where
      first : (b : A) → In b (x ∷ k) → name b ≡ name y → ⊥
      first b i e = go (Memᴰ.cases_cons i)
        where
          go : (b ≡ x) ⊎ In b k → ⊥
          go (inl q) = h.0 y (Memᴰ.head refl) (sym e ∙ ap name q)
          go (inr j) = h.1.0 b j e
  apart_perm l n (Permutation.both {m = m} p q) h = apart_perm m n q (apart_perm l m p h)

  pub apart-those : (p : A → Bool) (l : List A) → Apart l → Apart (those p l)
  apart-those p [] h = tt
  apart-those p (x ∷ l) h = go (p x) (apart-those p l h.1)
    where
      go : (b : Bool) → Apart (those p l) → Apart (cond b (x ∷ those p l) (those p l))
      go true ih = ((λ a i. h.0 a (those_in p l a i).0), ih)
      go false ih = ih

  pub apart-left : (l m : List A) → Apart (l ++ m) → Apart l
  apart-left [] m h = tt
  apart-left (x ∷ l) m h = ((λ b i. h.0 b (in_left b l m i)), apart-left l m h.1)

  pub apart_right : (l m : List A) → Apart (l ++ m) → Apart m
  apart_right [] m h = h
  apart_right (x ∷ l) m h = apart_right l m h.1

  -- what stands in one part bears no name of the other
  pub apart_across : (l m : List A) → Apart (l ++ m) → (a b : A) → In a l → In b m → name a ≡ name b → ⊥
  apart_across [] m h a b i j e = Memᴰ.not-nil i
  apart_across (x ∷ l) m h a b i j e = go (Memᴰ.cases_cons i) (apart_across l m h.1 a b)
    where
      go : (a ≡ x) ⊎ In a l → (In a l → In b m → name a ≡ name b → ⊥) → ⊥
      go (inl p) ih = h.0 b (in_right b l m j) (sym e ∙ ap name p)
      go (inr p) ih = ih p j e
