-- Any machine with demand 2 finishes its scans.
use mathlib.Core.Path.{◌≡◌, refl, sym, ap, ◌∙◌, subst}
use mathlib.Core.Bool.{Bool, true, false, not, ◌&&◌}
use mathlib.Core.Option.{Option, none, some, none-ne-some, some-injective}
use mathlib.Core.List.{List, [], ◌∷◌, ◌++◌, map}
use mathlib.Core.Logic.{◌⊎◌, inl, inr}
use Prim.Native.Nat.{ℕ, suc, ◌+◌, ◌≤◌}
use native.Mathlib.Omega.{arith}
use native.Mathlib.Decide.{ℕ_discrete}
use lib.Dec.{eqb, leb}
use lib.ListN.{length}
use borrow.Author.Tests.{eqb-true, eq-eqb, ne_eqb, leb-true}
use Rattle.demands.specs.DemandTwo.{Goes, Going, Fulfils, Answers, Demand2}
use Rattle.demands.specs.Finishing.{asks, asked, Finished, FinishedBy, Finishing}
use Rattle.demands.specs.History.{Scan, History, ticketed, begins, onward, goes_on, goes, finishes, on_next, runs, scan_of, heard, tells}
use Rattle.rules.specs.Passed.{All}
use Rattle.demands.specs.Lists.{those, first_that}
use Rattle.demands.specs.Lives.{Opening, table_slots, shelf_entries, bytes_after, events, past}
use Rattle.demands.specs.Machine.{Machine, Within}
use Rattle.demands.specs.Masks.{one_if}
use Rattle.demands.specs.Reasons.{reasons, reason}
use Rattle.rules.specs.Answers.{Answer, Draw}
use Rattle.rules.specs.Refusals.{Call, Change, first_of, called}
use Rattle.demands.proofs.machines.AnyMachine.{found, any_told}
use Rattle.demands.proofs.page.DemandTwo.{demand_2}
use Rattle.demands.proofs.lists.Lists.{any_in}
use Rattle.demands.proofs.page.Lives.{refused-heard}
use Rattle.demands.proofs.history.Past.{Past}

-- ---- the scan of a ticket, as scans go on and finish

own_goes : (t n : ℕ) (o : List (List ℕ)) (l : List Scan) (s : Scan) → first_that (ticketed t) l ≡ some s → first_that (ticketed t) (map (goes_on t n o) l) ≡ some (onward n o s)
own_goes t n o [] s e = absurd (none-ne-some s e)
own_goes t n o (x ∷ l) s e = go (ticketed t x) refl (own_goes t n o l s)
  where
    go : (b : Bool) → ticketed t x ≡ b → (first_that (ticketed t) l ≡ some s → first_that (ticketed t) (map (goes_on t n o) l) ≡ some (onward n o s)) → first_that (ticketed t) (map (goes_on t n o) (x ∷ l)) ≡ some (onward n o s)
    go true q ih = rw (q, q) (ap (λ (u : Scan). some (onward n o u)) (some-injective x s (sym (rw q refl) ∙ e)))
    go false q ih = rw (q, q) (ih (sym (rw q refl) ∙ e))

other_goes : (t u n : ℕ) (o : List (List ℕ)) → (u ≡ t → ⊥) → (l : List Scan) → first_that (ticketed t) (map (goes_on u n o) l) ≡ first_that (ticketed t) l
other_goes t u n o d [] = refl
other_goes t u n o d (x ∷ l) = go (ticketed u x) refl (other_goes t u n o d l)
  where
    go : (b : Bool) → ticketed u x ≡ b → first_that (ticketed t) (map (goes_on u n o) l) ≡ first_that (ticketed t) l → first_that (ticketed t) (map (goes_on u n o) (x ∷ l)) ≡ first_that (ticketed t) (x ∷ l)
    go true q ih =
        let z : eqb x.ticket t ≡ false = ne_eqb x.ticket t (λ y. d (sym (eqb-true x.ticket u q) ∙ y)) in
        rw (q, z) ih
    go false q ih = rw (q, ih) refl

other_finishes : (t u : ℕ) → (u ≡ t → ⊥) → (l : List Scan) → first_that (ticketed t) (those (λ s. not (ticketed u s)) l) ≡ first_that (ticketed t) l
other_finishes t u d [] = refl
other_finishes t u d (x ∷ l) = go (ticketed u x) refl (other_finishes t u d l)
  where
    go : (b : Bool) → ticketed u x ≡ b → first_that (ticketed t) (those (λ s. not (ticketed u s)) l) ≡ first_that (ticketed t) l → first_that (ticketed t) (those (λ s. not (ticketed u s)) (x ∷ l)) ≡ first_that (ticketed t) (x ∷ l)
    go true q ih = rw (q, ne_eqb x.ticket t (λ y. d (sym (eqb-true x.ticket u q) ∙ y))) ih
    go false q ih = rw (q, ih) refl

-- ---- one more call

module _ (N T R : ℕ) (h : History) (q : Past h) (t : ℕ) (s : Scan) (is : scan_of h t ≡ some s) where
  -- the scan runs on, with so many looks more at least
  abbrev Onward : ℕ → History → Type 0
  Onward n g = (u : Scan) × (scan_of g t ≡ some u) × (s.looks + n ≤ u.looks)

  stays : Onward 0 h
  stays = (s, is, omega arith)

  spent : (u b : ℕ) (o : List ℕ) → one_if (asks t (Call.next u b o)) ≤ b
  spent u b o = go (eqb u t) (leb 1 b) refl (eqb (length o) 56)
    where
      go : (x y : Bool) → leb 1 b ≡ y → (z : Bool) → one_if (x && (y && z)) ≤ b
      go true true e true = leb-true 1 b e
      go true true e false = omega arith
      go true false e z = omega arith
      go false y e z = omega arith

  not-asked : (u b : ℕ) (o : List ℕ) → (u ≡ t → ⊥) → one_if (asks t (Call.next u b o)) ≡ 0
  not-asked u b o d = rw (ne_eqb u t d) refl

  nexts : (u b : ℕ) (o : List ℕ) (a : Answer) (out : List ℕ) → Going T R h (scan_of h u) b out a → Finished t (Call.next u b o) a ⊎ Onward (one_if (asks t (Call.next u b o))) (on_next a h u out)
  nexts u b o a out f = go (ℕ_discrete u t)
    where
      own : u ≡ t → (a : Answer) → Goes T R s b out a → Finished t (Call.next u b o) a ⊎ Onward (one_if (asks t (Call.next u b o))) (on_next a h t out)
      own e Answer.done g = absurd g
      own e (Answer.begun x) g = absurd g
      own e (Answer.drew (Draw.in_hand l x)) g =
          let c : 1 ≤ l = g.1 in
          inr (onward l (out ∷ []) s, own_goes t l (out ∷ []) h.running s is, at_least l (asks t (Call.next u b o)) c)
        where
          at_least : (l : ℕ) (x : Bool) → 1 ≤ l → s.looks + one_if x ≤ s.looks + l
          at_least l true c = omega arith
          at_least l false c = omega arith
      own e (Answer.drew (Draw.paused l)) g = let c : l ≡ b = g.0 in inr (onward l [] s, own_goes t l [] h.running s is, omega (arith, spent u b o))
      own e (Answer.drew (Draw.finished l x y)) g = inl (e, (l, x, y, refl))
      own e (Answer.shown s) g = absurd g
      own e (Answer.refused x) g = absurd g

      at : Onward 0 h → (g : History) → scan_of g t ≡ scan_of h t → one_if (asks t (Call.next u b o)) ≡ 0 → Onward (one_if (asks t (Call.next u b o))) g
      at w g e z = (s, e ∙ is, omega arith)

      other : (u ≡ t → ⊥) → (a : Answer) → Onward (one_if (asks t (Call.next u b o))) (on_next a h u out)
      other d Answer.done = at stays h refl (not-asked u b o d)
      other d (Answer.begun x) = at stays h refl (not-asked u b o d)
      other d (Answer.drew (Draw.in_hand l x)) = at stays (goes h u l (out ∷ [])) (other_goes t u l (out ∷ []) d h.running) (not-asked u b o d)
      other d (Answer.drew (Draw.paused l)) = at stays (goes h u l []) (other_goes t u l [] d h.running) (not-asked u b o d)
      other d (Answer.drew (Draw.finished l x y)) = at stays (finishes h u) (other_finishes t u d h.running) (not-asked u b o d)
      other d (Answer.shown s) = at stays h refl (not-asked u b o d)
      other d (Answer.refused x) = at stays h refl (not-asked u b o d)

      go : Dec (u ≡ t) → Finished t (Call.next u b o) a ⊎ Onward (one_if (asks t (Call.next u b o))) (on_next a h u out)
      go (yes e) = subst (λ (x : ℕ). Finished t (Call.next u b o) a ⊎ Onward (one_if (asks t (Call.next u b o))) (on_next a h x out)) (sym e) (own e a (subst (λ (x : Option Scan). Going T R h x b out a) (ap (λ (x : ℕ). scan_of h x) e ∙ is) f))
      go (no d) = inr (other d a)

  -- a scan that begins has another ticket
  begun_other : Onward 0 (begins h (suc h.given))
  begun_other = (s, rw (ne_eqb (suc h.given) t (λ z. let f = found t h.running s is in omega (arith, (q.scans s f.0).high, f.1))) is, omega arith)

  granted : (c : Call) (a : Answer) (out : List ℕ) → Fulfils T R h c a out → Finished t c a ⊎ Onward (one_if (asks t c)) (heard h c a out)
  unfolding Fulfils heard
  granted (Call.opening n) a out f = inr stays
  granted (Call.change (Change.insert k x)) a out f = rw f (inr stays)
  granted (Call.change (Change.modify k x)) a out f = rw f (inr stays)
  granted (Call.change (Change.delete k)) a out f = rw f (inr stays)
  granted Call.begin a out f = rw f (inr begun_other)
  granted (Call.next u b o) a out f = nexts u b o a out f
  granted (Call.reading q) a out f = inr stays

  -- a call that asks for a running scan is not refused
  asks_granted : (c : Call) (k : ℕ) → reason N T R h c ≡ some k → asks t c ≡ false
  unfolding reasons first_of
  asks_granted (Call.opening n) k e = refl
  asks_granted (Call.change c) k e = refl
  asks_granted Call.begin k e = refl
  asks_granted (Call.next u b o) k e = go (eqb u t) refl (leb 1 b) (eqb (length o) 56) refl
    where
      going : u ≡ t → runs h u ≡ true
      going z = let f = found t h.running s is in any_in (ticketed u) h.running s f.0 (eq-eqb _ _ (f.1 ∙ sym z))

      go : (x : Bool) → eqb u t ≡ x → (y z : Bool) → eqb (length o) 56 ≡ z → (x && (y && z)) ≡ false
      go false p y z w = refl
      go true p false z w = refl
      go true p true false w = refl
      go true p true true w =
          let z : first_of ((not (eqb (length o) 56), 1) ∷ (not (runs h u), 10) ∷ []) ≡ none = rw (w, going (eqb-true _ _ p)) refl in
          absurd (none-ne-some k (sym z ∙ e))
  asks_granted (Call.reading q) k e = refl

  pub one_more : (c : Call) (a : Answer) (out : List ℕ) → Answers T R h (reason N T R h c) c a out → Finished t c a ⊎ Onward (one_if (asks t c)) (heard h c a out)
  one_more c a out f = go (reason N T R h c) refl f
    where
      go : (x : Option ℕ) → reason N T R h c ≡ x → Answers T R h x c a out → Finished t c a ⊎ Onward (one_if (asks t c)) (heard h c a out)
      go none e f = granted c a out f
      go (some k) e f =
          inr (subst (Onward (one_if (asks t c))) (sym (ap (λ (x : Answer). heard h c x out) f ∙ refused-heard h c k out)) (s, is, (let z : one_if (asks t c) ≡ 0 = ap one_if (asks_granted c k e) in omega arith)))

-- ---- any calls

module _ (M : Machine) (d : Demand2 M) (o : Opening) (cs : List Call) (t : ℕ) (s : Scan) (is : scan_of (past M o cs) t ≡ some s) where
  so_far : (ds : List Call) → All Within (ds ++ cs) → FinishedBy M o cs t ds ⊎ ((u : Scan) × (scan_of (past M o (ds ++ cs)) t ≡ some u) × (s.looks + asked t ds ≤ u.looks))
  unfolding events tells
  so_far [] w = inr (s, is, omega arith)
  so_far (c ∷ ds) w = go (so_far ds w.1)
    where
      add : (u x : Scan) → s.looks + asked t ds ≤ u.looks → u.looks + one_if (asks t c) ≤ x.looks → s.looks + (one_if (asks t c) + asked t ds) ≤ x.looks
      add u x a b = omega arith

      step : (u : Scan) → s.looks + asked t ds ≤ u.looks
          → Finished t c (M (bytes_after M o (ds ++ cs)) c).answer ⊎ ((x : Scan) × (scan_of (heard (past M o (ds ++ cs)) c (M (bytes_after M o (ds ++ cs)) c).answer (M (bytes_after M o (ds ++ cs)) c).out) t ≡ some x) × (u.looks + one_if (asks t c) ≤ x.looks))
          → FinishedBy M o cs t (c ∷ ds) ⊎ ((x : Scan) × (scan_of (heard (past M o (ds ++ cs)) c (M (bytes_after M o (ds ++ cs)) c).answer (M (bytes_after M o (ds ++ cs)) c).out) t ≡ some x) × (s.looks + (one_if (asks t c) + asked t ds) ≤ x.looks))
      step u a (inl f) = inl (inl f)
      step u a (inr x) = inr (x.0, x.1, add u x.0 a x.2)

      go : FinishedBy M o cs t ds ⊎ ((u : Scan) × (scan_of (past M o (ds ++ cs)) t ≡ some u) × (s.looks + asked t ds ≤ u.looks))
          → FinishedBy M o cs t (c ∷ ds) ⊎ ((x : Scan) × (scan_of (heard (past M o (ds ++ cs)) c (M (bytes_after M o (ds ++ cs)) c).answer (M (bytes_after M o (ds ++ cs)) c).out) t ≡ some x) × (s.looks + (one_if (asks t c) + asked t ds) ≤ x.looks))
      go (inl f) = inl (inr f)
      go (inr u) =
          let told = any_told M d o (ds ++ cs) w.1 in
          step u.0 u.2 (one_more o.n (table_slots o) (shelf_entries o) (past M o (ds ++ cs)) told.0 t u.0 u.1 c (M (bytes_after M o (ds ++ cs)) c).answer (M (bytes_after M o (ds ++ cs)) c).out (d.answers o (ds ++ cs) w.1 c w.0))

pub finishing : (M : Machine) → Demand2 M → Finishing M
unfolding Finishing
finishing M d o cs ds w t s is big = go (so_far M d o cs t s is ds w)
  where
    go : FinishedBy M o cs t ds ⊎ ((u : Scan) × (scan_of (past M o (ds ++ cs)) t ≡ some u) × (s.looks + asked t ds ≤ u.looks)) → FinishedBy M o cs t ds
    go (inl f) = f
    go (inr u) =
        let told = any_told M d o (ds ++ cs) w in
        let f = found t (past M o (ds ++ cs)).running u.0 u.1 in
        let a : u.0.looks ≤ table_slots o + shelf_entries o = told.1.looks u.0 f.0 in
        let b : s.looks + asked t ds ≤ u.0.looks = u.2 in
        absurd (omega arith)

pub ours-finish : Finishing called
ours-finish = finishing called demand_2
