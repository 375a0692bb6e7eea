-- Laws of a row of places, some of them empty.
use mathlib.Core.Path.{◌≡◌, refl, sym, ap, ◌∙◌}
use mathlib.Core.Bool.{Bool, true, false, cond}
use mathlib.Core.Option
use mathlib.Core.Option.{Option, none, some, none-ne-some, some-injective}
use mathlib.Core.List.Memᴰ
use mathlib.Core.List.{List, [], ◌∷◌, map}
use mathlib.Core.Logic.{◌⊎◌, inl, inr}
use Prim.Native.Nat.{ℕ, zero, suc, ◌≤◌, ◌<◌}
use native.Mathlib.Omega.{arith}
use lib.ListN.{length, get_or, set, replicate}
use Rattle.demands.specs.Lists.{those, standing, keep, Permutation}
use Rattle.demands.proofs.lists.Apart.{Apart}
use Rattle.demands.proofs.lists.Lists.{In, same}

module _ {A : Type 0} where
  abbrev pub At : List (Option A) → ℕ → A → Type 0
  At l i a = get_or l i none ≡ some a

  pub at_below : (l : List (Option A)) (i : ℕ) (a : A) → At l i a → i < length l
  at_below [] i a e = absurd (none-ne-some a e)
  at_below (o ∷ l) zero a e = omega arith
  at_below (o ∷ l) (suc i) a e = let h : i < length l = at_below l i a e in omega arith

  pub at_standing : (l : List (Option A)) (i : ℕ) (a : A) → At l i a → In a (standing l)
  at_standing [] i a e = absurd (none-ne-some a e)
  at_standing (none ∷ l) zero a e = absurd (none-ne-some a e)
  at_standing (none ∷ l) (suc i) a e = at_standing l i a e
  at_standing (some x ∷ l) zero a e = Memᴰ.head (sym (some-injective x a e))
  at_standing (some x ∷ l) (suc i) a e = Memᴰ.tail (at_standing l i a e)

  pub standing_at : (l : List (Option A)) (a : A) → In a (standing l) → (i : ℕ) × At l i a
  standing_at [] a m = absurd (Memᴰ.not-nil m)
  standing_at (none ∷ l) a m = let w = standing_at l a m in (suc w.0, w.1)
  standing_at (some x ∷ l) a m = go (Memᴰ.cases_cons m) (standing_at l a)
    where
      go : (a ≡ x) ⊎ In a (standing l) → (In a (standing l) → (i : ℕ) × At l i a) → (i : ℕ) × At (some x ∷ l) i a
      go (inl e) ih = (0, ap some (sym e))
      go (inr j) ih = let w = ih j in (suc w.0, w.1)

  -- an empty place taken
  pub standing-taken : (l : List (Option A)) (j : ℕ) (a : A) → get_or l j none ≡ none → j < length l → Permutation (standing (set l j (some a))) (a ∷ standing l)
  standing-taken [] j a e h = absurd (omega arith)
  standing-taken (none ∷ l) zero a e h = same (a ∷ standing l)
  standing-taken (some x ∷ l) zero a e h = absurd (none-ne-some x (sym e))
  standing-taken (none ∷ l) (suc j) a e h = standing-taken l j a e (omega arith)
  standing-taken (some x ∷ l) (suc j) a e h = Permutation.both (Permutation.next (standing-taken l j a e (omega arith))) Permutation.swap

  -- two places whose contents bear one name are one
  pub one_place : (name : A → ℕ) (l : List (Option A)) → Apart name (standing l) → (i j : ℕ) (a b : A) → At l i a → At l j b → name a ≡ name b → i ≡ j
  one_place name [] h i j a b p q e = absurd (none-ne-some a p)
  one_place name (none ∷ l) h zero j a b p q e = absurd (none-ne-some a p)
  one_place name (none ∷ l) h (suc i) zero a b p q e = absurd (none-ne-some b q)
  one_place name (none ∷ l) h (suc i) (suc j) a b p q e = ap suc (one_place name l h i j a b p q e)
  one_place name (some x ∷ l) h zero zero a b p q e = refl
  one_place name (some x ∷ l) h zero (suc j) a b p q e = absurd (h.0 b (at_standing l j b q) (sym e ∙ ap name (sym (some-injective x a p))))
  one_place name (some x ∷ l) h (suc i) zero a b p q e = absurd (h.0 a (at_standing l i a p) (e ∙ ap name (sym (some-injective x b q))))
  one_place name (some x ∷ l) h (suc i) (suc j) a b p q e = ap suc (one_place name l h.1 i j a b p q e)

  -- ---- how many

  pub standing_most : (l : List (Option A)) → length (standing l) ≤ length l
  standing_most [] = omega arith
  standing_most (none ∷ l) = omega (arith, standing_most l)
  standing_most (some x ∷ l) = omega (arith, standing_most l)

  pub room_less : (l : List (Option A)) (j : ℕ) → get_or l j none ≡ none → j < length l → length (standing l) < length l
  room_less [] j e h = absurd (omega arith)
  room_less (none ∷ l) zero e h = omega (arith, standing_most l)
  room_less (some x ∷ l) zero e h = absurd (none-ne-some x (sym e))
  room_less (none ∷ l) (suc j) e h = omega (arith, room_less l j e (omega arith))
  room_less (some x ∷ l) (suc j) e h = omega (arith, room_less l j e (omega arith))

  pub full_all : (l : List (Option A)) → ((j : ℕ) → j < length l → get_or l j none ≡ none → ⊥) → length (standing l) ≡ length l
  full_all [] h = refl
  full_all (none ∷ l) h = absurd (h 0 (omega arith) refl)
  full_all (some x ∷ l) h = ap suc (full_all l (λ j k e. h (suc j) (omega arith) e))

  -- ---- what stays

  pub standing-keep : (p : A → Bool) (l : List (Option A)) → standing (map (keep p) l) ≡ those p (standing l)
  standing-keep p [] = refl
  standing-keep p (none ∷ l) = standing-keep p l
  standing-keep p (some x ∷ l) = go (p x) (standing-keep p l)
    where
      go : (b : Bool) → standing (map (keep p) l) ≡ those p (standing l) → standing (cond b (some x) none ∷ map (keep p) l) ≡ cond b (x ∷ those p (standing l)) (those p (standing l))
      go true ih = ap (λ (m : List A). x ∷ m) ih
      go false ih = ih

  pub get_or-keep : (p : A → Bool) (l : List (Option A)) (i : ℕ) → get_or (map (keep p) l) i none ≡ keep p (get_or l i none)
  get_or-keep p [] i = refl
  get_or-keep p (o ∷ l) zero = refl
  get_or-keep p (o ∷ l) (suc i) = get_or-keep p l i

  pub length-keep : (p : A → Bool) (l : List (Option A)) → length (map (keep p) l) ≡ length l
  length-keep p [] = refl
  length-keep p (o ∷ l) = ap suc (length-keep p l)

  pub keep_at : (p : A → Bool) (l : List (Option A)) (i : ℕ) (a : A) → At (map (keep p) l) i a → At l i a × (p a ≡ true)
  keep_at p l i a e = go (get_or l i none) refl
    where
      inner : (x : A) (b : Bool) → get_or l i none ≡ some x → p x ≡ b → cond b (some x) none ≡ some a → At l i a × (p a ≡ true)
      inner x true g q f = (g ∙ f, ap p (sym (some-injective x a f)) ∙ q)
      inner x false g q f = absurd (none-ne-some a f)

      go : (o : Option A) → get_or l i none ≡ o → At l i a × (p a ≡ true)
      go none g = absurd (none-ne-some a (sym (get_or-keep p l i ∙ ap (keep p) g) ∙ e))
      go (some x) g = inner x (p x) g refl (sym (get_or-keep p l i ∙ ap (keep p) g) ∙ e)

  -- where all pass nothing goes
  pub keep_all : (p : A → Bool) (l : List (Option A)) → ((i : ℕ) (a : A) → At l i a → p a ≡ true) → map (keep p) l ≡ l
  keep_all p [] h = refl
  keep_all p (none ∷ l) h = ap (λ (m : List (Option A)). none ∷ m) (keep_all p l (λ i a e. h (suc i) a e))
  keep_all p (some x ∷ l) h = rw (h 0 x refl) (ap (λ (m : List (Option A)). some x ∷ m) (keep_all p l (λ i a e. h (suc i) a e)))

  -- the one that fails at place j is gone from it
  pub those_but : (p : A → Bool) (l : List (Option A)) (j : ℕ) (a : A) → At l j a → p a ≡ false → ((i : ℕ) (b : A) → (i ≡ j → ⊥) → At l i b → p b ≡ true) → those p (standing l) ≡ standing (set l j none)
  those_but p [] j a e f h = refl
  those_but p (none ∷ l) zero a e f h = absurd (none-ne-some a e)
  those_but p (some x ∷ l) zero a e f h =
      rw (ap p (some-injective x a e) ∙ f) (all_pass p l (λ i b g. h (suc i) b (λ z. omega arith) g))
    where
      all_pass : (p : A → Bool) (l : List (Option A)) → ((i : ℕ) (b : A) → At l i b → p b ≡ true) → those p (standing l) ≡ standing l
      all_pass p l h = sym (standing-keep p l) ∙ ap standing (keep_all p l h)
  those_but p (none ∷ l) (suc j) a e f h = those_but p l j a e f (λ i b d g. h (suc i) b (λ z. d (omega arith)) g)
  those_but p (some x ∷ l) (suc j) a e f h =
      rw (h 0 x (λ z. omega arith) refl) (ap (λ (m : List A). x ∷ m) (those_but p l j a e f (λ i b d g. h (suc i) b (λ z. d (omega arith)) g)))

  -- the one that passes, at place j, is all that passes
  pub those-one : (p : A → Bool) (l : List (Option A)) (j : ℕ) (a : A) → At l j a → p a ≡ true → ((i : ℕ) (b : A) → (i ≡ j → ⊥) → At l i b → p b ≡ false) → those p (standing l) ≡ a ∷ []
  those-one p [] j a e f h = absurd (none-ne-some a e)
  those-one p (none ∷ l) zero a e f h = absurd (none-ne-some a e)
  those-one p (some x ∷ l) zero a e f h =
      rw (ap p (some-injective x a e) ∙ f, none_pass p l (λ i b g. h (suc i) b (λ z. omega arith) g)) (ap (λ (y : A). y ∷ []) (some-injective x a e))
    where
      none_pass : (p : A → Bool) (l : List (Option A)) → ((i : ℕ) (b : A) → At l i b → p b ≡ false) → those p (standing l) ≡ []
      none_pass p [] h = refl
      none_pass p (none ∷ l) h = none_pass p l (λ i b g. h (suc i) b g)
      none_pass p (some y ∷ l) h = rw (h 0 y refl) (none_pass p l (λ i b g. h (suc i) b g))
  those-one p (none ∷ l) (suc j) a e f h = those-one p l j a e f (λ i b d g. h (suc i) b (λ z. d (omega arith)) g)
  those-one p (some x ∷ l) (suc j) a e f h = rw (h 0 x (λ z. omega arith) refl) (those-one p l j a e f (λ i b d g. h (suc i) b (λ z. d (omega arith)) g))

  pub standing-none : (n : ℕ) → standing {A = A} (replicate n none) ≡ []
  standing-none zero = refl
  standing-none (suc n) = standing-none n

  -- ---- every content changed

  pub standing-map : (f : A → A) (l : List (Option A)) → standing (map (Option.map f) l) ≡ map f (standing l)
  standing-map f [] = refl
  standing-map f (none ∷ l) = standing-map f l
  standing-map f (some x ∷ l) = ap (λ (m : List A). f x ∷ m) (standing-map f l)

  pub get_d_map : {B : Type 0} (f : A → B) (l : List (Option A)) (i : ℕ) → get_or (map (Option.map f) l) i none ≡ Option.map f (get_or l i none)
  get_d_map f [] i = refl
  get_d_map f (o ∷ l) zero = refl
  get_d_map f (o ∷ l) (suc i) = get_d_map f l i

  pub length-places : {B : Type 0} (f : A → B) (l : List (Option A)) → length (map (Option.map f) l) ≡ length l
  length-places f [] = refl
  length-places f (o ∷ l) = ap suc (length-places f l)
