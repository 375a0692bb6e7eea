-- Demand 2 with the rule of next leaves no answer open: two machines that meet both, and put versions in the same places, answer alike.
use mathlib.Core.Path.{◌≡◌, refl, sym, ap, ◌∙◌}
use mathlib.Core.Bool.{false≢true}
use mathlib.Core.Option.{Option, none, some-injective}
use mathlib.Core.List.{List, [], ◌∷◌}
use mathlib.Core.Logic.{◌⊎◌, inl, inr}
use Prim.Native.Nat.{ℕ, suc, ◌+◌, ◌-◌, ◌≤◌, ◌<◌}
use native.Mathlib.Omega.{arith}
use native.Mathlib.Decide.{dec_lt}
use lib.ListN.{length, get_or}
use Rattle.demands.specs.DemandTwo.{Goes}
use Rattle.demands.specs.History.{Version, Scan, History, reads, goes, on_next, tells}
use Rattle.demands.specs.Placement.{due, Passes, Finds, LooksRight}
use Rattle.demands.specs.RuleOfNext.{Peeks}
use Rattle.rules.specs.Answers.{Answer, Draw, number}
use Rattle.demands.proofs.lists.Places.{at_below}

-- ---- one answer of next

module _ (T R : ℕ) (l : List (Option Version)) (s : Scan) (budget : ℕ) (h : History) (t : ℕ) where
  -- a place that is passed holds nothing to find
  passed_or_found : (m n : ℕ) (o : List ℕ) → Passes l s m → Finds l s n o → n < m → ⊥
  passed_or_found m n o p f k = false≢true (sym (p n k) ∙ ap (due s) f.1 ∙ f.2)

  same_find : (n m : ℕ) (o u : List ℕ) → n ≡ m → Finds l s n o → Finds l s m u → o ≡ u
  same_find n m o u e f g = f.3 ∙ ap reads (some-injective f.0 g.0 (sym f.1 ∙ ap (λ (k : ℕ). get_or l (s.looks + k) none) e ∙ g.1)) ∙ sym g.3

  data Seen : Answer → List ℕ → Type 0 where
    hands : (k x : ℕ) (o : List ℕ) → Goes T R s budget o (Answer.drew (Draw.in_hand k x)) → LooksRight l s o (Answer.drew (Draw.in_hand k x)) → Seen (Answer.drew (Draw.in_hand k x)) o
    pauses : (k : ℕ) (o : List ℕ) → Goes T R s budget o (Answer.drew (Draw.paused k)) → LooksRight l s o (Answer.drew (Draw.paused k)) → Seen (Answer.drew (Draw.paused k)) o
    ends : (k x n : ℕ) (o : List ℕ) → Goes T R s budget o (Answer.drew (Draw.finished k x n)) → LooksRight l s o (Answer.drew (Draw.finished k x n)) → Seen (Answer.drew (Draw.finished k x n)) o

  see : (a : Answer) (o : List ℕ) → Goes T R s budget o a → LooksRight l s o a → Seen a o
  see Answer.done o g w = absurd g
  see (Answer.begun x) o g w = absurd g
  see (Answer.drew (Draw.in_hand k x)) o g w = hands k x o g w
  see (Answer.drew (Draw.paused k)) o g w = pauses k o g w
  see (Answer.drew (Draw.finished k x n)) o g w = ends k x n o g w
  see (Answer.shown s) o g w = absurd g
  see (Answer.refused x) o g w = absurd g

  pub record Alike (a b : Answer) (o u : List ℕ) : Type 0 where
    pub answers : a ≡ b
    pub tell : on_next a h t o ≡ on_next b h t u
    pub outs : number a ≡ 0 → o ≡ u

  hands_once : (k x m y : ℕ) (o u : List ℕ) → Goes T R s budget o (Answer.drew (Draw.in_hand k x)) → LooksRight l s o (Answer.drew (Draw.in_hand k x)) → Goes T R s budget u (Answer.drew (Draw.in_hand m y)) → LooksRight l s u (Answer.drew (Draw.in_hand m y))
      → Alike (Answer.drew (Draw.in_hand k x)) (Answer.drew (Draw.in_hand m y)) o u
  hands_once k x m y o u g w f v = go (dec_lt w.0 v.0) (dec_lt v.0 w.0)
    where
      go : Dec (w.0 < v.0) → Dec (v.0 < w.0) → Alike (Answer.drew (Draw.in_hand k x)) (Answer.drew (Draw.in_hand m y)) o u
      go (yes d) c = absurd (passed_or_found v.0 w.0 o v.2 w.3 d)
      go (no d) (yes c) = absurd (passed_or_found w.0 v.0 u w.2 v.3 c)
      go (no d) (no c) =
          let e : w.0 ≡ v.0 = omega arith in
          let i : k ≡ suc w.0 = w.1 in
          let j : m ≡ suc v.0 = v.1 in
          let a : k ≡ m = omega arith in
          let p : k + x ≡ budget = g.2 in
          let q : m + y ≡ budget = f.2 in
          let b : x ≡ y = omega arith in
          let c : o ≡ u = same_find w.0 v.0 o u e w.3 v.3 in
          record { answers = λ i. (Answer.drew (Draw.in_hand (a i) (b i))); tell = λ i. goes h t (a i) (c i ∷ []); outs = λ _. c }

  -- it cannot hand out and pass as many places as it may
  hands_not_passed : (k x m : ℕ) (o : List ℕ) → Goes T R s budget o (Answer.drew (Draw.in_hand k x)) → LooksRight l s o (Answer.drew (Draw.in_hand k x)) → Passes l s m → (m ≡ budget) ⊎ (s.looks + m ≡ T + R) → ⊥
  hands_not_passed k x m o g w p (inl e) = let i : k ≡ suc w.0 = w.1 in let j : k + x ≡ budget = g.2 in passed_or_found m w.0 o p w.3 (omega arith)
  hands_not_passed k x m o g w p (inr e) = let i : k ≡ suc w.0 = w.1 in let j : s.looks + k ≤ T + R = g.3 in passed_or_found m w.0 o p w.3 (omega arith)

  one_answer : (a b : Answer) (o u : List ℕ) → Seen a o → Seen b u → Alike a b o u
  unfolding number
  one_answer a b o u (hands k x p g w) (hands m y r f v) = hands_once k x m y p r g w f v
  one_answer a b o u (hands k x p g w) (pauses m r f v) = absurd (hands_not_passed k x m p g w v (inl f.0))
  one_answer a b o u (hands k x p g w) (ends m y n r f v) = absurd (hands_not_passed k x m p g w v (inr f.3))
  one_answer a b o u (pauses m r f v) (hands k x p g w) = absurd (hands_not_passed k x m p g w v (inl f.0))
  one_answer a b o u (pauses k p g w) (pauses m r f v) = let e : k ≡ m = g.0 ∙ sym f.0 in record { answers = ap (λ (z : ℕ). Answer.drew (Draw.paused z)) e; tell = ap (λ (n : ℕ). goes h t n []) e; outs = λ z. absurd (omega arith) }
  one_answer a b o u (pauses k p g w) (ends m y n r f v) = let i : k ≡ budget = g.0 in let j : s.looks + k < T + R = g.1 in let c : m + y ≡ budget = f.2 in let d : s.looks + m ≡ T + R = f.3 in absurd (omega arith)
  one_answer a b o u (ends m y n r f v) (hands k x p g w) = absurd (hands_not_passed k x m p g w v (inr f.3))
  one_answer a b o u (ends m y n r f v) (pauses k p g w) = let i : k ≡ budget = g.0 in let j : s.looks + k < T + R = g.1 in let c : m + y ≡ budget = f.2 in let d : s.looks + m ≡ T + R = f.3 in absurd (omega arith)
  one_answer a b o u (ends k x n p g w) (ends m y j r f v) =
      let c : s.looks + k ≡ T + R = g.3 in
      let d : s.looks + m ≡ T + R = f.3 in
      let e : k ≡ m = omega arith in
      let i : k + x ≡ budget = g.2 in
      let z : m + y ≡ budget = f.2 in
      let q : x ≡ y = omega arith in
      record { answers = λ i. (Answer.drew (Draw.finished (e i) (q i) ((g.1 ∙ sym f.1) i))); tell = refl; outs = λ z. absurd (omega arith) }

  pub alike : (a b : Answer) (o u : List ℕ) → Goes T R s budget o a → LooksRight l s o a → Goes T R s budget u b → LooksRight l s u b → Alike a b o u
  alike a b o u g w f v = one_answer a b o u (see a o g w) (see b u f v)

-- ---- one part of peek

module _ (l : List (Option Version)) (s : Scan) (end : ℕ) (short : length l ≤ end) where
  finds_before : (n : ℕ) (o : List ℕ) → Finds l s n o → s.looks + n < end
  finds_before n o f = let b : s.looks + n < length l = at_below l (s.looks + n) f.0 f.1 in omega arith

  pub one-part : (o u : List ℕ) → Peeks l s end o → Peeks l s end u → o ≡ u
  one-part o u (inl a) (inl b) = go (dec_lt a.0 b.0) (dec_lt b.0 a.0)
    where
      go : Dec (a.0 < b.0) → Dec (b.0 < a.0) → o ≡ u
      go (yes d) c = absurd (passed_or_found 0 0 l s 0 (tells []) 0 b.0 a.0 o b.1 a.2 d)
      go (no d) (yes c) = absurd (passed_or_found 0 0 l s 0 (tells []) 0 a.0 b.0 u a.1 b.2 c)
      go (no d) (no c) = let e : a.0 ≡ b.0 = omega arith in same_find 0 0 l s 0 (tells []) 0 a.0 b.0 o u e a.2 b.2
  one-part o u (inl a) (inr b) = absurd (passed_or_found 0 0 l s 0 (tells []) 0 (end - s.looks) a.0 o b.0 a.2 (omega (arith, finds_before a.0 o a.2)))
  one-part o u (inr a) (inl b) = absurd (passed_or_found 0 0 l s 0 (tells []) 0 (end - s.looks) b.0 u a.0 b.2 (omega (arith, finds_before b.0 u b.2)))
  one-part o u (inr a) (inr b) = a.1 ∙ sym b.1
