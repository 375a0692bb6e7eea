-- What a scan awaits, as it goes on.
use mathlib.Core.Path.{◌≡◌, refl, sym, ap, ◌∙◌}
use mathlib.Core.Bool.{Bool, true, false, not, ◌&&◌, ◌||◌, false≢true, and-true}
use mathlib.Core.List.Memᴰ
use mathlib.Core.List.{List, [], ◌∷◌, ◌++◌, map}
use mathlib.Core.Logic.{◌⊎◌, inl, inr}
use Prim.Native.Nat.{ℕ, ◌<◌}
use lib.Dec.{eqb}
use lib.ListN.{take}
use lib.Seq.{take_at}
use borrow.Author.Tests.{eqb-true, eq-eqb, ne_eqb}
use Rattle.demands.specs.History.{Version, Scan, scan, reads, alike, began_with, handed_out, awaits, waiting, onward}
use Rattle.demands.specs.Lists.{those, Permutation}
use Rattle.rules.specs.Bytes.{le, to_le}
use Rattle.rules.proofs.Bytes.{length-to_le, le_to_le}
use Rattle.demands.proofs.lists.Apart.{Apart}
use Rattle.demands.proofs.lists.Lists.{In, any_in, in_any, none_any, those-same, those-all, same, back, middle, perm_after, perm_map}

-- ---- bytes that read alike

pub alike_same : (l : List ℕ) → alike l l ≡ true
alike_same [] = refl
alike_same (x ∷ l) = rw (eq-eqb x x refl, alike_same l) refl

pub alike_is : (l m : List ℕ) → alike l m ≡ true → l ≡ m
alike_is [] [] e = refl
alike_is [] (y ∷ m) e = absurd (false≢true e)
alike_is (x ∷ l) [] e = absurd (false≢true e)
alike_is (x ∷ l) (y ∷ m) e = go (eqb x y) refl (alike_is l m)
  where
    go : (b : Bool) → eqb x y ≡ b → (alike l m ≡ true → l ≡ m) → x ∷ l ≡ y ∷ m
    go true q ih = let p : x ≡ y = eqb-true x y q in let r : l ≡ m = ih (sym (ap (λ (b : Bool). b && alike l m) q) ∙ e) in cc
    go false q ih = absurd (false≢true (sym (ap (λ (b : Bool). b && alike l m) q) ∙ e))

number_read : (v : Version) → v.number < 4294967296 → le (take 4 (reads v)) ≡ v.number
number_read v h = rw (take_at (to_le 4 v.number) v.body 4 (length-to_le 4 v.number)) (le_to_le 4 v.number h)

-- versions that read alike bear one number
pub alike-number : (u v : Version) → u.number < 4294967296 → v.number < 4294967296 → alike (reads u) (reads v) ≡ true → u.number ≡ v.number
alike-number u v p q e = sym (number_read u p) ∙ ap (λ (l : List ℕ). le (take 4 l)) (alike_is (reads u) (reads v) e) ∙ number_read v q

-- ---- awaited

pub awaits-began : (s : Scan) (v : Version) → awaits s v ≡ true → (u : Version) × In u s.began × (u.change ≡ v.change)
unfolding awaits
awaits-began s v e = go (began_with s v) refl
  where
    go : (b : Bool) → began_with s v ≡ b → (u : Version) × In u s.began × (u.change ≡ v.change)
    go true q = let w = in_any (λ u. eqb u.change v.change) s.began q in (w.0, w.1, eqb-true _ _ w.2)
    go false q = absurd (false≢true (sym (ap (λ (b : Bool). b && not (handed_out s v)) q) ∙ e))

-- what it did not begin with it does not await
pub awaits-not : (s : Scan) (v : Version) → ((u : Version) → In u s.began → u.change ≡ v.change → ⊥) → awaits s v ≡ false
unfolding awaits
awaits-not s v h = rw (none_any (λ u. eqb u.change v.change) s.began (λ u i. ne_eqb _ _ (h u i))) refl

-- at its begin it awaits all
pub awaits-first : (t l : ℕ) (b : List Version) (v : Version) → In v b → awaits (scan t b [] l) v ≡ true
unfolding awaits
awaits-first t l b v i = rw (any_in (λ u. eqb u.change v.change) b v i (eq-eqb v.change v.change refl)) refl

pub awaits_passed : (n : ℕ) (s : Scan) (v : Version) → awaits (onward n [] s) v ≡ awaits s v
unfolding awaits
awaits_passed n s v = refl

-- one more hand-out
pub awaits-handed : (n : ℕ) (o : List ℕ) (s : Scan) (v : Version) → awaits (onward n (o ∷ []) s) v ≡ awaits s v && not (alike (reads v) o)
unfolding awaits
awaits-handed n o s v = go (began_with s v) (alike (reads v) o) (handed_out s v)
  where
    go : (a b c : Bool) → a && not (b || c) ≡ (a && not c) && not b
    go true true true = refl
    go true true false = refl
    go true false c = sym (and-true (not c))
    go false b c = refl

pub awaits_gone : (n : ℕ) (s : Scan) (v : Version) → awaits (onward n (reads v ∷ []) s) v ≡ false
awaits_gone n s v = awaits-handed n (reads v) s v ∙ rw (alike_same (reads v)) (go (awaits s v))
  where
    go : (a : Bool) → a && false ≡ false
    go true = refl
    go false = refl

pub awaits_less : (n : ℕ) (o : List ℕ) (s : Scan) (v : Version) → awaits (onward n (o ∷ []) s) v ≡ true → awaits s v ≡ true
awaits_less n o s v e = go (awaits s v) refl
  where
    go : (b : Bool) → awaits s v ≡ b → awaits s v ≡ true
    go true q = q
    go false q = absurd (false≢true (sym (awaits-handed n o s v ∙ rw q refl) ∙ e))

-- no other number is touched
pub awaits_other : (n : ℕ) (s : Scan) (u v : Version) → u.number < 4294967296 → v.number < 4294967296 → (awaits s u ≡ true → u.number ≡ v.number → ⊥) → awaits (onward n (reads v ∷ []) s) u ≡ awaits s u
awaits_other n s u v p q d = go (awaits s u) refl (alike (reads u) (reads v)) refl
  where
    go : (a : Bool) → awaits s u ≡ a → (b : Bool) → alike (reads u) (reads v) ≡ b → awaits (onward n (reads v ∷ []) s) u ≡ awaits s u
    go true e true f = absurd (d e (alike-number u v p q f))
    go true e false f = awaits-handed n (reads v) s u ∙ rw f (and-true (awaits s u))
    go false e b f = awaits-handed n (reads v) s u ∙ rw e refl

-- ---- one of those that are awaited is handed out

those_less : (p q : Version → Bool) (v : Version) (l : List Version) → Apart (λ (x : Version). x.number) l → In v l → p v ≡ true → q v ≡ false
    → ((u : Version) → In u l → (u.number ≡ v.number → ⊥) → q u ≡ p u) → Permutation (those p l) (v ∷ those q l)
those_less p q v [] h i e f g = absurd (Memᴰ.not-nil i)
those_less p q v (x ∷ l) h i e f g = go (Memᴰ.cases_cons i) (λ j. those_less p q v l h.1 j e f (λ u k. g u (Memᴰ.tail k)))
  where
    go : (v ≡ x) ⊎ In v l → (In v l → Permutation (those p l) (v ∷ those q l)) → Permutation (those p (x ∷ l)) (v ∷ those q (x ∷ l))
    go (inl d) ih =
        let a : p x ≡ true = sym (ap p d) ∙ e in
        let b : q x ≡ false = sym (ap q d) ∙ f in
        let c : those p l ≡ those q l = those-same p q l (λ u k. sym (g u (Memᴰ.tail k) (λ z. h.0 u k (z ∙ ap (λ (y : Version). y.number) d)))) in
        rw (a, b, c, d) (same (x ∷ those q l))
    go (inr j) ih = step (p x) refl
      where
        agree : q x ≡ p x
        agree = g x (Memᴰ.head refl) (λ z. h.0 v j (sym z))

        step : (b : Bool) → p x ≡ b → Permutation (those p (x ∷ l)) (v ∷ those q (x ∷ l))
        step true a = rw (a, agree ∙ a) (Permutation.both (Permutation.next (ih j)) Permutation.swap)
        step false a = rw (a, agree ∙ a) (ih j)

-- what has been handed out and what is awaited are what it began with
abbrev pub Handing : Scan → Type 0
Handing s = Permutation (s.handed ++ map reads (waiting s)) (map reads s.began)

pub handing_first : (t l : ℕ) (b : List Version) → Handing (scan t b [] l)
handing_first t l b = rw (those-all (awaits (scan t b [] l)) b (λ v i. awaits-first t l b v i)) (same (map reads b))

pub handing_passed : (n : ℕ) (s : Scan) → Handing s → Handing (onward n [] s)
handing_passed n s h = rw (those-same (awaits (onward n [] s)) (awaits s) s.began (λ v i. awaits_passed n s v)) h

pub handing_handed : (n : ℕ) (s : Scan) (v : Version) → Apart (λ (x : Version). x.number) s.began → ((u : Version) → In u s.began → u.number < 4294967296) → In v s.began → awaits s v ≡ true → Handing s
    → Handing (onward n (reads v ∷ []) s)
handing_handed n s v ap' small i e h =
    let p : Permutation (waiting s) (v ∷ waiting (onward n (reads v ∷ []) s)) =
    those_less (awaits s) (awaits (onward n (reads v ∷ []) s)) v s.began ap' i e (awaits_gone n s v) (λ u j d. awaits_other n s u v (small u j) (small v i) (λ q. d)) in
    Permutation.both (middle (reads v) s.handed (map reads (waiting (onward n (reads v ∷ []) s))))
    (Permutation.both (perm_after s.handed (reads v ∷ map reads (waiting (onward n (reads v ∷ []) s))) (map reads (waiting s)) (back (perm_map reads (waiting s) (v ∷ waiting (onward n (reads v ∷ []) s)) p))) h)
