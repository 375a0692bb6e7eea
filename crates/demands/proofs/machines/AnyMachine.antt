-- What the calls and answers tell of any machine that meets demand 2.
use mathlib.Core.Path.{◌≡◌, refl, sym, ap, ◌∙◌, subst}
use mathlib.Core.Bool.{Bool, true, false, not, ◌||◌, cond, false≢true}
use mathlib.Core.Option.{Option, none, some, none-ne-some, some-injective}
use mathlib.Core.List.Memᴰ
use mathlib.Core.List.{List, [], ◌∷◌, ◌++◌}
use mathlib.Core.Logic.{◌⊎◌, inl, inr}
use Prim.Native.Nat.{ℕ, suc, ◌+◌, ◌≤◌, ◌<◌}
use native.Mathlib.Omega.{arith}
use lib.Dec.{leb}
use lib.ListN.{length, length-map}
use borrow.Author.Tests.{eqb-true, leb-false, not-false}
use Rattle.demands.specs.DemandTwo.{Goes, Going, Fulfils, Answers, Demand2}
use Rattle.demands.specs.History.{Version, version, Scan, scan, History, numbered, ticketed, remain, leaving, is_live, inserted, modified, deleted, begins, onward, goes_on, goes, on_next, scan_of, heard, tells}
use Rattle.rules.specs.Passed.{All}
use Rattle.demands.specs.Lists.{any, those, first_that}
use Rattle.demands.specs.Lives.{Opening, table_slots, shelf_entries, bytes_after, events, past}
use Rattle.demands.specs.Machine.{Machine, Within}
use Rattle.demands.specs.Reasons.{reasons, reason}
use Rattle.rules.specs.Answers.{Answer, Draw}
use Rattle.rules.specs.Refusals.{Call, Change}
use Rattle.stores.proofs.FirstOf.{Untrue, none-holds}
use Rattle.demands.proofs.lists.Apart.{apart_eq}
use Rattle.demands.proofs.lists.Lists.{In, those_in, perm_in, map_in}
use Rattle.demands.proofs.page.Lives.{refused-heard}
use Rattle.demands.proofs.history.Past.{Past, ticket_of, ever, left_one, inserted-past, modified-past, deleted-past, begins-past, passed_past, handed-past, finishes-past, opened-past}
use Rattle.stores.proofs.Stays.{some_number}

-- no more live than slots, no more scans than positions, no more looks than places; no record of number 0; tickets of 32 bits
pub record Bounded (N T R : ℕ) (h : History) : Type 0 where
  pub live : length h.live ≤ T
  pub running : length h.running ≤ N
  pub began : (s : Scan) → In s h.running → length s.began ≤ T
  pub looks : (s : Scan) → In s h.running → s.looks ≤ T + R
  pub numbers : (v : Version) → In v (ever h) → 1 ≤ v.number
  pub given : h.given < 4294967296

pub those_most : {A : Type 0} (p : A → Bool) (l : List A) → length (those p l) ≤ length l
those_most p [] = omega arith
those_most p (x ∷ l) = go (p x) (those_most p l)
  where
    go : (b : Bool) → length (those p l) ≤ length l → length (cond b (x ∷ those p l) (those p l)) ≤ suc (length l)
    go true h = omega arith
    go false h = omega arith

-- a record that leaves makes room
those_less : (p : Version → Bool) (l : List Version) → any p l ≡ true → length (those (λ v. not (p v)) l) < length l
those_less p [] e = absurd (false≢true e)
those_less p (x ∷ l) e = go (p x) refl (those_less p l)
  where
    go : (b : Bool) → p x ≡ b → (any p l ≡ true → length (those (λ v. not (p v)) l) < length l) → length (those (λ v. not (p v)) (x ∷ l)) < suc (length l)
    go true q ih = rw q (let m : length (those (λ v. not (p v)) l) ≤ length l = those_most (λ v. not (p v)) l in omega arith)
    go false q ih = rw q (let m = ih (sym (ap (λ (b : Bool). b || any p l) q) ∙ e) in omega arith)

pub found : (t : ℕ) (l : List Scan) (s : Scan) → first_that (ticketed t) l ≡ some s → In s l × (s.ticket ≡ t)
found t [] s e = absurd (none-ne-some s e)
found t (x ∷ l) s e = go (ticketed t x) refl (found t l s)
  where
    go : (b : Bool) → ticketed t x ≡ b → (first_that (ticketed t) l ≡ some s → In s l × (s.ticket ≡ t)) → In s (x ∷ l) × (s.ticket ≡ t)
    go true q ih = let z : x ≡ s = some-injective x s (sym (rw q refl) ∙ e) in (Memᴰ.head (sym z), ap (λ (u : Scan). u.ticket) (sym z) ∙ eqb-true _ _ q)
    go false q ih = let w = ih (sym (rw q refl) ∙ e) in (Memᴰ.tail w.0, w.1)

module _ (N T R : ℕ) (h : History) (q : Past h) (b : Bounded N T R h) where
  -- ---- one more answer

  pub record Told (g : History) : Type 0 where
    pub past : Past g
    pub bounded : Bounded N T R g

  same : Told h
  same = record { past = q; bounded = b }

  -- of a version more, or of none
  one_more : (k : ℕ) (x : List ℕ) → 1 ≤ k → (l : List Version) → ((v : Version) → In v l → 1 ≤ v.number) → (v : Version) → In v (version k x h.changes ∷ l) → 1 ≤ v.number
  one_more k x low l f v i = go (Memᴰ.cases_cons i)
    where
      go : (v ≡ version k x h.changes) ⊎ In v l → 1 ≤ v.number
      go (inl e) = subst (λ (u : Version). 1 ≤ u.number) (sym e) low
      go (inr j) = f v j

  left_numbers : (k : ℕ) (v : Version) → In v (remain k h.live ++ (leaving k h.live ++ h.left)) → 1 ≤ v.number
  left_numbers k v i = b.numbers v (perm_in v _ (ever h) (left_one h q k) i)

  told-insert : (k : ℕ) (x : List ℕ) → 1 ≤ k → k < 4294967296 → is_live h k ≡ false → leb T (length h.live) ≡ false → Told (inserted h k x)
  told-insert k x low small absent room =
      record {
        past = inserted-past h q k x small absent;
        bounded = record { live = leb-false T (length h.live) room; running = b.running; began = b.began; looks = b.looks; numbers = one_more k x low (ever h) b.numbers; given = b.given };
      }

  told-modify : (k : ℕ) (x : List ℕ) → 1 ≤ k → k < 4294967296 → is_live h k ≡ true → Told (modified h k x)
  told-modify k x low small is =
      record {
        past = modified-past h q k x small;
        bounded = record {
          live = let m : length (remain k h.live) < length h.live = those_less (numbered k) h.live is in omega (arith, b.live);
          running = b.running;
          began = b.began;
          looks = b.looks;
          numbers = one_more k x low (remain k h.live ++ (leaving k h.live ++ h.left)) (left_numbers k);
          given = b.given;
        };
      }

  told-delete : (k : ℕ) → Told (deleted h k)
  told-delete k =
      record {
        past = deleted-past h q k;
        bounded = record { live = omega (arith, those_most (λ v. not (numbered k v)) h.live, b.live); running = b.running; began = b.began; looks = b.looks; numbers = left_numbers k; given = b.given };
      }

  told-begin : leb N (length h.running) ≡ false → leb 4294967295 h.given ≡ false → Told (begins h (suc h.given))
  told-begin room more =
      record {
        past = begins-past h q;
        bounded = record {
          live = b.live;
          running = leb-false N (length h.running) room;
          began = λ s i. go s (Memᴰ.cases_cons i);
          looks = λ s i. none_yet s (Memᴰ.cases_cons i);
          numbers = b.numbers;
          given = omega (arith, leb-false 4294967295 h.given more);
        };
      }
    where
      go : (s : Scan) → (s ≡ scan (suc h.given) h.live [] 0) ⊎ In s h.running → length s.began ≤ T
      go s (inl e) = subst (λ (u : Scan). length u.began ≤ T) (sym e) b.live
      go s (inr i) = b.began s i

      none_yet : (s : Scan) → (s ≡ scan (suc h.given) h.live [] 0) ⊎ In s h.running → s.looks ≤ T + R
      none_yet s (inl e) = subst (λ (u : Scan). u.looks ≤ T + R) (sym e) (omega arith)
      none_yet s (inr i) = b.looks s i

  goes_bounded : (t n : ℕ) (o : List (List ℕ)) → ((s : Scan) → In s h.running → s.ticket ≡ t → s.looks + n ≤ T + R) → Bounded N T R (goes h t n o)
  goes_bounded t n o most =
      record {
        live = b.live;
        running = omega (arith, length-map h.running (goes_on t n o), b.running);
        began = λ s i. let w = map_in (goes_on t n o) h.running s i in subst (λ (u : Scan). length u.began ≤ T) (sym w.2) (kept w.0 (ticketed t w.0) (b.began w.0 w.1));
        looks = λ s i. let w = map_in (goes_on t n o) h.running s i in subst (λ (u : Scan). u.looks ≤ T + R) (sym w.2) (looked w.0 w.1 (ticketed t w.0) refl);
        numbers = b.numbers;
        given = b.given;
      }
    where
      looked : (u : Scan) → In u h.running → (x : Bool) → ticketed t u ≡ x → (goes_on t n o u).looks ≤ T + R
      looked u i true e = rw e (most u i (eqb-true _ _ e))
      looked u i false e = rw e (b.looks u i)

      kept : (u : Scan) (x : Bool) → length u.began ≤ T → length (cond x (onward n o u) u).began ≤ T
      kept u true e = e
      kept u false e = e

  told-next : (t budget : ℕ) (out : List ℕ) (a : Answer) → Going T R h (scan_of h t) budget out a → Told (on_next a h t out)
  told-next t budget out a g = go (scan_of h t) refl a g
    where
      only : (s : Scan) → scan_of h t ≡ some s → (n : ℕ) → s.looks + n ≤ T + R → (u : Scan) → In u h.running → u.ticket ≡ t → u.looks + n ≤ T + R
      only s e n m u i z = let f = found t h.running s e in subst (λ (x : Scan). x.looks + n ≤ T + R) (apart_eq ticket_of h.running q.tickets s u f.0 i (f.1 ∙ sym z)) m

      hands : (s : Scan) → scan_of h t ≡ some s → (l x : ℕ) → Goes T R s budget out (Answer.drew (Draw.in_hand l x)) → Told (goes h t l (out ∷ []))
      hands s e l x w =
          let f = found t h.running s e in
          let v = w.0 in
          record { past = subst (λ (y : List ℕ). Past (goes h t l (y ∷ []))) (sym v.3) (handed-past h q t l s v.0 f.0 f.1 v.1 v.2); bounded = goes_bounded t l (out ∷ []) (only s e l w.3) }

      go : (o : Option Scan) → scan_of h t ≡ o → (a : Answer) → Going T R h o budget out a → Told (on_next a h t out)
      go none e a w = absurd w
      go (some s) e Answer.done w = absurd w
      go (some s) e (Answer.begun x) w = absurd w
      go (some s) e (Answer.drew (Draw.in_hand l x)) w = hands s e l x w
      go (some s) e (Answer.drew (Draw.paused l)) w = record { past = passed_past h q t l; bounded = goes_bounded t l [] (only s e l (let m : s.looks + l < T + R = w.1 in omega arith)) }
      go (some s) e (Answer.drew (Draw.finished l x y)) w =
          record {
            past = finishes-past h q t;
            bounded = record {
              live = b.live;
              running = omega (arith, those_most (λ u. not (ticketed t u)) h.running, b.running);
              began = λ u i. b.began u (those_in (λ u. not (ticketed t u)) h.running u i).0;
              looks = λ u i. b.looks u (those_in (λ u. not (ticketed t u)) h.running u i).0;
              numbers = b.numbers;
              given = b.given;
            };
          }
      go (some s) e (Answer.shown x) w = absurd w
      go (some s) e (Answer.refused x) w = absurd w

  granted : (c : Call) → Within c → (a : Answer) (out : List ℕ) → Untrue (reasons N T R h c) → Fulfils T R h c a out → Told (heard h c a out)
  unfolding reasons Fulfils heard
  granted (Call.opening n) w a out u f = same
  granted (Call.change (Change.insert k x)) w a out u f = rw f (told-insert k x (some_number k u.1.0) w.0 u.1.1.1.0 u.1.1.1.1.0)
  granted (Call.change (Change.modify k x)) w a out u f = rw f (told-modify k x (some_number k u.1.0) w.0 (not-false _ u.1.1.1.0))
  granted (Call.change (Change.delete k)) w a out u f = rw f (told-delete k)
  granted Call.begin w a out u f = rw f (told-begin u.0 u.1.0)
  granted (Call.next t x o) w a out u f = told-next t x out a f
  granted (Call.reading q) w a out u f = same

  pub told-call : (c : Call) → Within c → (a : Answer) (out : List ℕ) → Answers T R h (reason N T R h c) c a out → Told (heard h c a out)
  told-call c w a out f = go (reason N T R h c) refl f
    where
      go : (o : Option ℕ) → reason N T R h c ≡ o → Answers T R h o c a out → Told (heard h c a out)
      go (some k) e f = subst Told (sym (ap (λ (x : Answer). heard h c x out) f ∙ refused-heard h c k out)) same
      go none e f = granted c w a out (none-holds (reasons N T R h c) e) f

-- every history of the machine
module _ (M : Machine) (d : Demand2 M) (o : Opening) where
  pub any_told : (cs : List Call) → All Within cs → Past (past M o cs) × Bounded o.n (table_slots o) (shelf_entries o) (past M o cs)
  unfolding events tells
  any_told [] w = (opened-past, record { live = omega arith; running = omega arith; began = λ s i. absurd (Memᴰ.not-nil i); looks = λ s i. absurd (Memᴰ.not-nil i); numbers = λ v i. absurd (Memᴰ.not-nil i); given = omega arith })
  any_told (c ∷ cs) w =
      let h = any_told cs w.1 in
      let g = told-call o.n (table_slots o) (shelf_entries o) (past M o cs) h.0 h.1 c w.0 (M (bytes_after M o cs) c).answer (M (bytes_after M o cs) c).out (d.answers o cs w.1 c w.0) in
      (g.past, g.bounded)
