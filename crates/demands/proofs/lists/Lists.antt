-- Laws of members, of tests over lists and of permutations.
use mathlib.Core.Path.{◌≡◌, refl, sym, ap, ◌∙◌, subst}
use mathlib.Core.Bool.{Bool, true, false, not, ◌||◌, cond, false≢true}
use mathlib.Core.Option.{some}
use mathlib.Core.List.Memᴰ
use mathlib.Core.List.{List, [], ◌∷◌, ◌++◌, map, Memᴰ}
use mathlib.Core.Logic.{◌⊎◌, inl, inr}
use Prim.Native.Nat.{suc}
use lib.ListN.{length}
use Rattle.demands.specs.Lists.{any, those, first_that, Permutation}

pub clash : {A : Type 0} (b : Bool) → b ≡ true → b ≡ false → A
clash b p q = absurd (false≢true (sym q ∙ p))

module _ {A : Type 0} where
  abbrev pub In : A → List A → Type 0
  In a l = Memᴰ a l

  pub in_left : (a : A) (l m : List A) → In a l → In a (l ++ m)
  in_left a [] m i = absurd (Memᴰ.not-nil i)
  in_left a (x ∷ l) m i = go (Memᴰ.cases_cons i) (in_left a l m)
    where
      go : (a ≡ x) ⊎ In a l → (In a l → In a (l ++ m)) → In a (x ∷ l ++ m)
      go (inl e) ih = Memᴰ.head e
      go (inr j) ih = Memᴰ.tail (ih j)

  pub in_right : (a : A) (l m : List A) → In a m → In a (l ++ m)
  in_right a [] m i = i
  in_right a (x ∷ l) m i = Memᴰ.tail (in_right a l m i)

  pub in_cases : (a : A) (l m : List A) → In a (l ++ m) → In a l ⊎ In a m
  in_cases a [] m i = inr i
  in_cases a (x ∷ l) m i = go (Memᴰ.cases_cons i) (in_cases a l m)
    where
      more : In a l ⊎ In a m → In a (x ∷ l) ⊎ In a m
      more (inl j) = inl (Memᴰ.tail j)
      more (inr j) = inr j

      go : (a ≡ x) ⊎ In a (l ++ m) → (In a (l ++ m) → In a l ⊎ In a m) → In a (x ∷ l) ⊎ In a m
      go (inl e) ih = inl (Memᴰ.head e)
      go (inr j) ih = more (ih j)

  -- ---- tests

  pub any_in : (p : A → Bool) (l : List A) (a : A) → In a l → p a ≡ true → any p l ≡ true
  any_in p [] a i e = absurd (Memᴰ.not-nil i)
  any_in p (x ∷ l) a i e = go (Memᴰ.cases_cons i) (p x) refl (λ j. any_in p l a j e)
    where
      go : (a ≡ x) ⊎ In a l → (b : Bool) → p x ≡ b → (In a l → any p l ≡ true) → any p (x ∷ l) ≡ true
      go m true q ih = rw q refl
      go (inl d) false q ih = clash (p x) (sym (ap p d) ∙ e) q
      go (inr j) false q ih = rw q (ih j)

  pub in_any : (p : A → Bool) (l : List A) → any p l ≡ true → (a : A) × In a l × (p a ≡ true)
  in_any p [] e = absurd (false≢true e)
  in_any p (x ∷ l) e = go (p x) refl (in_any p l)
    where
      go : (b : Bool) → p x ≡ b → (any p l ≡ true → (a : A) × In a l × (p a ≡ true)) → (a : A) × In a (x ∷ l) × (p a ≡ true)
      go true q ih = (x, Memᴰ.head refl, q)
      go false q ih = let w = ih (sym (ap (λ (b : Bool). b || any p l) q) ∙ e) in (w.0, Memᴰ.tail w.1, w.2)

  pub none_any : (p : A → Bool) (l : List A) → ((a : A) → In a l → p a ≡ false) → any p l ≡ false
  none_any p [] h = refl
  none_any p (x ∷ l) h = rw (h x (Memᴰ.head refl)) (none_any p l (λ a i. h a (Memᴰ.tail i)))

  pub any_none : (p : A → Bool) (l : List A) → any p l ≡ false → (a : A) → In a l → p a ≡ false
  any_none p l e a i = go (p a) refl
    where
      go : (b : Bool) → p a ≡ b → p a ≡ false
      go true q = clash (any p l) (any_in p l a i q) e
      go false q = q

  pub in_those : (p : A → Bool) (l : List A) (a : A) → In a l → p a ≡ true → In a (those p l)
  in_those p [] a i e = absurd (Memᴰ.not-nil i)
  in_those p (x ∷ l) a i e = go (Memᴰ.cases_cons i) (p x) refl (λ j. in_those p l a j e)
    where
      go : (a ≡ x) ⊎ In a l → (b : Bool) → p x ≡ b → (In a l → In a (those p l)) → In a (those p (x ∷ l))
      go (inl d) true q ih = rw q (Memᴰ.head d)
      go (inl d) false q ih = clash (p x) (sym (ap p d) ∙ e) q
      go (inr j) true q ih = rw q (Memᴰ.tail (ih j))
      go (inr j) false q ih = rw q (ih j)

  pub those_in : (p : A → Bool) (l : List A) (a : A) → In a (those p l) → In a l × (p a ≡ true)
  those_in p [] a i = absurd (Memᴰ.not-nil i)
  those_in p (x ∷ l) a i = go (p x) refl (those_in p l a)
    where
      tail : In a l × (p a ≡ true) → In a (x ∷ l) × (p a ≡ true)
      tail w = (Memᴰ.tail w.0, w.1)

      head : p x ≡ true → (In a (those p l) → In a l × (p a ≡ true)) → (a ≡ x) ⊎ In a (those p l) → In a (x ∷ l) × (p a ≡ true)
      head q ih (inl e) = (Memᴰ.head e, ap p e ∙ q)
      head q ih (inr j) = tail (ih j)

      go : (b : Bool) → p x ≡ b → (In a (those p l) → In a l × (p a ≡ true)) → In a (x ∷ l) × (p a ≡ true)
      go true q ih = head q ih (Memᴰ.cases_cons (subst (λ (b : Bool). In a (cond b (x ∷ those p l) (those p l))) q i))
      go false q ih = tail (ih (subst (λ (b : Bool). In a (cond b (x ∷ those p l) (those p l))) q i))

  -- tests that agree on the list
  pub those-same : (p q : A → Bool) (l : List A) → ((a : A) → In a l → p a ≡ q a) → those p l ≡ those q l
  those-same p q [] h = refl
  those-same p q (x ∷ l) h = rw (h x (Memᴰ.head refl), those-same p q l (λ a i. h a (Memᴰ.tail i))) refl

  pub any_same : (p q : A → Bool) (l : List A) → ((a : A) → In a l → p a ≡ q a) → any p l ≡ any q l
  any_same p q [] h = refl
  any_same p q (x ∷ l) h = rw (h x (Memᴰ.head refl), any_same p q l (λ a i. h a (Memᴰ.tail i))) refl

  pub those-all : (p : A → Bool) (l : List A) → ((a : A) → In a l → p a ≡ true) → those p l ≡ l
  those-all p [] h = refl
  those-all p (x ∷ l) h = rw (h x (Memᴰ.head refl)) (ap (λ (m : List A). x ∷ m) (those-all p l (λ a i. h a (Memᴰ.tail i))))

  pub those-none : (p : A → Bool) (l : List A) → ((a : A) → In a l → p a ≡ false) → those p l ≡ []
  those-none p [] h = refl
  those-none p (x ∷ l) h = rw (h x (Memᴰ.head refl)) (those-none p l (λ a i. h a (Memᴰ.tail i)))

  -- the stricter test alone
  pub those-those : (p q : A → Bool) (l : List A) → ((a : A) → q a ≡ true → p a ≡ true) → those q (those p l) ≡ those q l
  those-those p q [] h = refl
  those-those p q (x ∷ l) h = go (p x) refl (q x) refl (those-those p q l h)
    where
      go : (b : Bool) → p x ≡ b → (c : Bool) → q x ≡ c → those q (those p l) ≡ those q l → those q (those p (x ∷ l)) ≡ those q (x ∷ l)
      go true e c f ih = rw (e, ih) refl
      go false e true f ih = clash (p x) (h x f) e
      go false e false f ih = rw (e, f) ih

  -- ---- permutations

  pub same : (l : List A) → Permutation l l
  same [] = Permutation.empty
  same (a ∷ l) = Permutation.next (same l)

  pub back : {l m : List A} → Permutation l m → Permutation m l
  back Permutation.empty = Permutation.empty
  back (Permutation.next p) = Permutation.next (back p)
  back Permutation.swap = Permutation.swap
  back (Permutation.both p q) = Permutation.both (back q) (back p)

  pub as_often : (l m : List A) → l ≡ m → Permutation l m
  as_often l m e = subst (Permutation l) e (same l)

  pub perm_length : (l m : List A) → Permutation l m → length l ≡ length m
  perm_length l m Permutation.empty = refl
  perm_length l m (Permutation.next {l = x} {m = y} p) = ap suc (perm_length x y p)
  perm_length l m Permutation.swap = refl
  perm_length l n (Permutation.both {m = m} p q) = perm_length l m p ∙ perm_length m n q

  pub perm_in : (a : A) (l m : List A) → Permutation l m → In a l → In a m
  perm_in a l m Permutation.empty i = i
  perm_in a l m (Permutation.next {a = x} {l = k} {m = n} p) i = go (Memᴰ.cases_cons i) (perm_in a k n p)
    where
      go : (a ≡ x) ⊎ In a k → (In a k → In a n) → In a (x ∷ n)
      go (inl e) ih = Memᴰ.head e
      go (inr j) ih = Memᴰ.tail (ih j)
  perm_in a l m (Permutation.swap {a = x} {b = y} {l = k}) i = go (Memᴰ.cases_cons i)
    where
      more : (a ≡ y) ⊎ In a k → In a (y ∷ x ∷ k)
      more (inl e) = Memᴰ.head e
      more (inr j) = Memᴰ.tail (Memᴰ.tail j)

      go : (a ≡ x) ⊎ In a (y ∷ k) → In a (y ∷ x ∷ k)
      go (inl e) = Memᴰ.tail (Memᴰ.head e)
      go (inr j) = more (Memᴰ.cases_cons j)
  perm_in a l n (Permutation.both {m = m} p q) i = perm_in a m n q (perm_in a l m p i)

  pub perm_those : (p : A → Bool) (l m : List A) → Permutation l m → Permutation (those p l) (those p m)
  perm_those p l m Permutation.empty = Permutation.empty
  perm_those p l m (Permutation.next {a = x} {l = k} {m = n} q) = go (p x) (perm_those p k n q)
    where
      go : (b : Bool) → Permutation (those p k) (those p n) → Permutation (cond b (x ∷ those p k) (those p k)) (cond b (x ∷ those p n) (those p n))
      go true ih = Permutation.next ih
      go false ih = ih
  perm_those p l m (Permutation.swap {a = x} {b = y} {l = k}) = go (p x) (p y)
    where
      go : (b c : Bool) → Permutation (cond b (x ∷ cond c (y ∷ those p k) (those p k)) (cond c (y ∷ those p k) (those p k))) (cond c (y ∷ cond b (x ∷ those p k) (those p k)) (cond b (x ∷ those p k) (those p k)))
      go true true = Permutation.swap
      go true false = same (x ∷ those p k)
      go false true = same (y ∷ those p k)
      go false false = same (those p k)
  perm_those p l n (Permutation.both {m = m} q r) = Permutation.both (perm_those p l m q) (perm_those p m n r)

  -- an element may stand anywhere
  pub middle : (a : A) (l m : List A) → Permutation (a ∷ l ++ m) (l ++ (a ∷ m))
  middle a [] m = same (a ∷ m)
  middle a (x ∷ l) m = Permutation.both Permutation.swap (Permutation.next (middle a l m))

  pub perm_after : (k l m : List A) → Permutation l m → Permutation (k ++ l) (k ++ m)
  perm_after [] l m p = p
  perm_after (x ∷ k) l m p = Permutation.next (perm_after k l m p)

  pub perm_before : (l m k : List A) → Permutation l m → Permutation (l ++ k) (m ++ k)
  perm_before l m k Permutation.empty = same k
  perm_before l m k (Permutation.next {l = x} {m = y} p) = Permutation.next (perm_before x y k p)
  perm_before l m k Permutation.swap = Permutation.swap
  perm_before l n k (Permutation.both {m = m} p q) = Permutation.both (perm_before l m k p) (perm_before m n k q)

  -- those that fail and those that pass are all
  pub fail_pass : (p : A → Bool) (l : List A) → Permutation (those (λ a. not (p a)) l ++ those p l) l
  fail_pass p [] = Permutation.empty
  fail_pass p (x ∷ l) = go (p x) (fail_pass p l)
    where
      go : (b : Bool) → Permutation (those (λ a. not (p a)) l ++ those p l) l
          → Permutation (cond (not b) (x ∷ those (λ a. not (p a)) l) (those (λ a. not (p a)) l) ++ cond b (x ∷ those p l) (those p l)) (x ∷ l)
      go true ih = Permutation.both (back (middle x (those (λ a. not (p a)) l) (those p l))) (Permutation.next ih)
      go false ih = Permutation.next ih

pub perm_map : {A B : Type 0} (f : A → B) (l m : List A) → Permutation l m → Permutation (map f l) (map f m)
perm_map f l m Permutation.empty = Permutation.empty
perm_map f l m (Permutation.next {l = x} {m = y} p) = Permutation.next (perm_map f x y p)
perm_map f l m Permutation.swap = Permutation.swap
perm_map f l n (Permutation.both {m = m} p q) = Permutation.both (perm_map f l m p) (perm_map f m n q)

pub map_in : {A B : Type 0} (f : A → B) (l : List A) (b : B) → In b (map f l) → (a : A) × In a l × (b ≡ f a)
map_in f [] b i = absurd (Memᴰ.not-nil i)
map_in f (x ∷ l) b i = go (Memᴰ.cases_cons i) (map_in f l b)
  where
    go : (b ≡ f x) ⊎ In b (map f l) → (In b (map f l) → (a : _) × In a l × (b ≡ f a)) → (a : _) × In a (x ∷ l) × (b ≡ f a)
    go (inl e) ih = (x, Memᴰ.head refl, e)
    go (inr j) ih = let w = ih j in (w.0, Memᴰ.tail w.1, w.2)

pub any_perm : {A : Type 0} (p : A → Bool) (l m : List A) → Permutation l m → any p l ≡ any p m
any_perm p l m q = go (any p l) refl (any p m) refl
  where
    go : (a : Bool) → any p l ≡ a → (b : Bool) → any p m ≡ b → any p l ≡ any p m
    go true x true y = x ∙ sym y
    go true x false y = let w = in_any p l x in clash (any p m) (any_in p m w.0 (perm_in w.0 l m q w.1) w.2) y
    go false x true y = let w = in_any p m y in clash (any p l) (any_in p l w.0 (perm_in w.0 m l (back q) w.1) w.2) x
    go false x false y = x ∙ sym y

-- the only one that passes is the first
pub first_only : {A : Type 0} (p : A → Bool) (l : List A) (a : A) → In a l → p a ≡ true → ((b : A) → In b l → p b ≡ true → b ≡ a) → first_that p l ≡ some a
first_only p [] a i e h = absurd (Memᴰ.not-nil i)
first_only p (x ∷ l) a i e h = go (p x) refl (Memᴰ.cases_cons i) (λ j. first_only p l a j e (λ b k. h b (Memᴰ.tail k)))
  where
    go : (b : Bool) → p x ≡ b → (a ≡ x) ⊎ In a l → (In a l → first_that p l ≡ some a) → first_that p (x ∷ l) ≡ some a
    go true q w ih = rw q (ap some (h x (Memᴰ.head refl) q))
    go false q (inl d) ih = clash (p x) (sym (ap p d) ∙ e) q
    go false q (inr j) ih = rw q (ih j)
