-- Two machines that meet demand 2 and the rule of next, with versions put in the same places, answer every list of calls alike.
use mathlib.Core.Path.{◌≡◌, refl, sym, ap, ◌∙◌, subst}
use mathlib.Core.Bool.{Bool, true, false, not, ◌||◌, cond, false≢true}
use mathlib.Core.Option.{Option, none, some, some-injective, some-ne-none}
use mathlib.Core.List.{List, [], ◌∷◌}
use Prim.Native.Nat.{ℕ, ◌+◌, ◌≤◌}
use native.Mathlib.Omega.{arith}
use lib.ListN.{length, get_or, set, length-set, length-replicate, length-append}
use borrow.Author.Tests.{not-false}
use Rattle.demands.specs.DemandTwo.{Going, Fulfils, Answers, Demand2}
use Rattle.demands.specs.History.{Event, Version, Scan, History, awaited, needed, ticketed, on_done, on_next, runs, scan_of, heard, tells, tells_from, untold}
use Rattle.rules.specs.Passed.{All}
use Rattle.demands.specs.Lists.{any, first_that}
use Rattle.demands.specs.Lives.{Opening, table_slots, shelf_entries, bytes_after, events, past}
use Rattle.demands.specs.Machine.{Machine, Within}
use Rattle.demands.specs.Placement.{Choice, Placing, Places, sit, place_of, shelve, moves, all_told, placed, placed_from, all_told_from, unplaced, places_after, row, LooksRight}
use Rattle.demands.specs.Reasons.{reason, reasons}
use Rattle.demands.specs.RuleOfNext.{Peeks, still_to_come, RuleOfNext}
use Rattle.rules.specs.Answers.{Answer, Shown, number}
use Rattle.rules.specs.Refusals.{Call, Change, Reading, first_of, refused_as}
use Rattle.stores.proofs.FirstOf.{Untrue, holds-first, no_refusal, none-holds, skip_first}
use Rattle.demands.proofs.page.Lives.{refused-heard}
use Rattle.demands.proofs.lists.Places.{length-keep}
use Rattle.demands.proofs.machines.SameAnswers.{alike, one-part}

-- ---- there are as many places as slots and entries

pub record Sized (T R : ℕ) (p : Places) : Type 0 where
  pub table : length p.table ≡ T
  pub shelf : length p.shelf ≡ R

module _ (C : Choice) (T R : ℕ) where
  shelve-length : (h : History) (s : List (Option Version)) (o : Option Version) → length (shelve C h s o) ≡ length s
  shelve-length h s none = refl
  shelve-length h s (some v) = go (awaited h v)
    where
      go : (b : Bool) → length (cond b (set s (C.entry s) (some v)) s) ≡ length s
      go true = length-set s (C.entry s) (some v)
      go false = refl

  on_done_lem : (a : Answer) (x p : Places) → Sized T R x → Sized T R p → Sized T R (on_done a x p)
  on_done_lem Answer.done x p i j = i
  on_done_lem (Answer.begun t) x p i j = j
  on_done_lem (Answer.drew d) x p i j = j
  on_done_lem (Answer.shown s) x p i j = j
  on_done_lem (Answer.refused k) x p i j = j

  moved_sized : (h g : History) (p : Places) → Sized T R p → (c : Call) (a : Answer) → Sized T R (moves C h g p c a)
  unfolding moves
  moved_sized h g p i (Call.opening n) a = i
  moved_sized h g p i (Call.change (Change.insert k b)) a = on_done_lem a _ p (record { table = length-set p.table (C.slot p.table) _ ∙ i.table; shelf = i.shelf }) i
  moved_sized h g p i (Call.change (Change.modify k b)) a = on_done_lem a _ p (record { table = length-set p.table _ _ ∙ i.table; shelf = shelve-length h p.shelf (get_or p.table (place_of p.table k) none) ∙ i.shelf }) i
  moved_sized h g p i (Call.change (Change.delete k)) a = on_done_lem a _ p (record { table = length-set p.table _ _ ∙ i.table; shelf = shelve-length h p.shelf (get_or p.table (place_of p.table k) none) ∙ i.shelf }) i
  moved_sized h g p i Call.begin a = sat a
    where
      sat : (a : Answer) → Sized T R (sit C a p)
      sat Answer.done = i
      sat (Answer.begun t) = record { table = i.table; shelf = i.shelf }
      sat (Answer.drew d) = i
      sat (Answer.shown s) = i
      sat (Answer.refused k) = i
  moved_sized h g p i (Call.next t b o) a = record { table = i.table; shelf = length-keep (awaited g) p.shelf ∙ i.shelf }
  moved_sized h g p i (Call.reading q) a = i

placed_sized : (start : History) (P : Placing) (T R : ℕ) (first : Places) → Sized T R first → (es : List Event) → Sized T R (placed_from start P first es)
placed_sized start P T R first i [] = i
placed_sized start P T R first i (e ∷ es) =
    moved_sized (P (all_told_from start es)) T R (tells_from start es) (tells_from start (e ∷ es)) (placed_from start P first es) (placed_sized start P T R first i es) e.call e.answer

-- ---- an answer that is right of a history and its places

first_any : (t : ℕ) (l : List Scan) → any (ticketed t) l ≡ true → (s : Scan) × (first_that (ticketed t) l ≡ some s)
first_any t [] e = absurd (false≢true e)
first_any t (x ∷ l) e = go (ticketed t x) refl (first_any t l)
  where
    go : (b : Bool) → ticketed t x ≡ b → (any (ticketed t) l ≡ true → (s : Scan) × (first_that (ticketed t) l ≡ some s)) → (s : Scan) × (first_that (ticketed t) (x ∷ l) ≡ some s)
    go true q ih = (x, ap (λ (b : Bool). cond b (some x) (first_that (ticketed t) l)) q)
    go false q ih = let w = ih (sym (ap (λ (b : Bool). b || any (ticketed t) l) q) ∙ e) in (w.0, ap (λ (b : Bool). cond b (some x) (first_that (ticketed t) l)) q ∙ w.1)

module _ (N T R : ℕ) (h : History) (p : Places) (i : Sized T R p) where
  abbrev ReadRight : Call → Answer → List ℕ → Type 0
  ReadRight (Call.opening n) a out = Unit
  ReadRight (Call.change c) a out = Unit
  ReadRight Call.begin a out = Unit
  ReadRight (Call.next t b o) a out = (s : Scan) → scan_of h t ≡ some s → LooksRight (row p) s out a
  ReadRight (Call.reading (Reading.peek t)) a out = (s : Scan) → scan_of h t ≡ some s → (part : List ℕ) × (a ≡ Answer.shown (Shown.part part)) × Peeks (row p) s (T + R) part
  ReadRight (Call.reading Reading.tally) a out = a ≡ Answer.shown (Shown.counted (length h.live) (length (needed h)))
  ReadRight (Call.reading (Reading.owed t)) a out = (s : Scan) → scan_of h t ≡ some s → a ≡ Answer.shown (Shown.owing (still_to_come T h s))

  pub record Right (c : Call) (a : Answer) (out : List ℕ) : Type 0 where
    pub answers : Answers T R h (reason N T R h c) c a out
    pub reading : reason N T R h c ≡ none → ReadRight c a out

  abbrev Same : Call → Answer → Answer → List ℕ → List ℕ → Type 0
  Same c a b o u = (a ≡ b) × (heard h c a o ≡ heard h c b u)

  short : length (row p) ≤ T + R
  short = omega (arith, length-append p.table p.shelf, i.table, i.shelf)

  running : (t : ℕ) → not (runs h t) ≡ false → (s : Scan) × (scan_of h t ≡ some s)
  running t e = first_any t h.running (not-false _ e)

  next-same : (t b : ℕ) (x : List ℕ) (a c : Answer) (o u : List ℕ) → Going T R h (scan_of h t) b o a → Going T R h (scan_of h t) b u c → ReadRight (Call.next t b x) a o → ReadRight (Call.next t b x) c u
      → (a ≡ c) × (on_next a h t o ≡ on_next c h t u)
  next-same t b x a c o u f g v w = go (scan_of h t) refl f g
    where
      go : (y : Option Scan) → scan_of h t ≡ y → Going T R h y b o a → Going T R h y b u c → (a ≡ c) × (on_next a h t o ≡ on_next c h t u)
      go none e f g = absurd f
      go (some s) e f g = let z = alike T R (row p) s b h t a c o u f (v s e) g (w s e) in (z.answers, z.tell)

  granted : (c : Call) (a b : Answer) (o u : List ℕ) → Untrue (reasons N T R h c) → Fulfils T R h c a o → Fulfils T R h c b u → ReadRight c a o → ReadRight c b u → Same c a b o u
  unfolding reasons Fulfils heard
  granted (Call.opening n) a b o u e f g v w = (f ∙ sym g, refl)
  granted (Call.change c) a b o u e f g v w = (f ∙ sym g, rw (f, g) refl)
  granted Call.begin a b o u e f g v w = (f ∙ sym g, rw (f, g) refl)
  granted (Call.next t x y) a b o u e f g v w = next-same t x y a b o u f g v w
  granted (Call.reading (Reading.peek t)) a b o u e f g v w =
      let s = running t e.0 in
      let x = v s.0 s.1 in
      let y = w s.0 s.1 in
      (x.1 ∙ ap (λ (z : List ℕ). Answer.shown (Shown.part z)) (one-part (row p) s.0 (T + R) short x.0 y.0 x.2 y.2) ∙ sym y.1, refl)
  granted (Call.reading Reading.tally) a b o u e f g v w = (v ∙ sym w, refl)
  granted (Call.reading (Reading.owed t)) a b o u e f g v w = let s = running t e.0 in (v s.0 s.1 ∙ sym (w s.0 s.1), refl)

  pub same_step : (c : Call) (a b : Answer) (o u : List ℕ) → Right c a o → Right c b u → Same c a b o u
  same_step c a b o u f g = go (reason N T R h c) refl f.answers g.answers
    where
      go : (x : Option ℕ) → reason N T R h c ≡ x → Answers T R h x c a o → Answers T R h x c b u → Same c a b o u
      go none e v w = granted c a b o u (none-holds (reasons N T R h c) e) v w (f.reading e) (g.reading e)
      go (some k) e v w =
          (v ∙ sym w, ap (λ (x : Answer). heard h c x o) v ∙ refused-heard h c k o ∙ sym (ap (λ (x : Answer). heard h c x u) w ∙ refused-heard h c k u))

  -- what next hands out
  pub same_out : (t b : ℕ) (x : List ℕ) (a c : Answer) (o u : List ℕ) → Right (Call.next t b x) a o → Right (Call.next t b x) c u → number a ≡ 0 → o ≡ u
  unfolding reasons Fulfils refused_as number
  same_out t b x a c o u f g z = go (reason N T R h (Call.next t b x)) refl f.answers g.answers
    where
      refused-not : (y w : Bool) (k : ℕ) → first_of ((y, 1) ∷ (w, 10) ∷ []) ≡ some k → k ≡ 0 → ⊥
      refused-not true w k e y = let q : 1 ≡ k = some-injective 1 k (sym (holds-first 1 _) ∙ e) in omega arith
      refused-not false true k e y = let q : 10 ≡ k = some-injective 10 k (sym (skip_first false 1 _ refl ∙ holds-first 10 _) ∙ e) in omega arith
      refused-not false false k e y = some-ne-none k (sym e ∙ skip_first false 1 _ refl ∙ skip_first false 10 _ refl ∙ no_refusal)

      going : (y : Option Scan) → scan_of h t ≡ y → Going T R h y b o a → Going T R h y b u c → reason N T R h (Call.next t b x) ≡ none → o ≡ u
      going none e v w r = absurd v
      going (some s) e v w r = (alike T R (row p) s b h t a c o u v (f.reading r s e) w (g.reading r s e)).outs z

      go : (y : Option ℕ) → reason N T R h (Call.next t b x) ≡ y → Answers T R h y (Call.next t b x) a o → Answers T R h y (Call.next t b x) c u → o ≡ u
      go none e v w = going (scan_of h t) refl v w e
      go (some k) e v w = absurd (refused-not _ _ k e (sym (ap number v) ∙ z))

-- ---- every list of calls

module _ (M : Machine) (P : Placing) (d : Demand2 M) (r : RuleOfNext M P) (o : Opening) (cs : List Call) (ws : All Within cs) where
  -- where every list of calls leads, there are as many places
  sized : Sized (table_slots o) (shelf_entries o) (places_after M P o cs)
  unfolding placed
  sized = placed_sized untold P (table_slots o) (shelf_entries o) (unplaced o.n (table_slots o) (shelf_entries o)) (record { table = length-replicate (table_slots o) none; shelf = length-replicate (shelf_entries o) none }) (events M o cs)

  is_right : (c : Call) → Within c → Right o.n (table_slots o) (shelf_entries o) (past M o cs) (places_after M P o cs) sized c (M (bytes_after M o cs) c).answer (M (bytes_after M o cs) c).out
  is_right c w = record { answers = d.answers o cs ws c w; reading = reads c w }
    where
      reads : (c : Call) → Within c → reason o.n (table_slots o) (shelf_entries o) (past M o cs) c ≡ none
          → ReadRight o.n (table_slots o) (shelf_entries o) (past M o cs) (places_after M P o cs) sized c (M (bytes_after M o cs) c).answer (M (bytes_after M o cs) c).out
      reads (Call.opening n) w e = tt
      reads (Call.change c) w e = tt
      reads Call.begin w e = tt
      reads (Call.next t b x) w e = λ s is. r.looks o cs ws t b x w e s is
      reads (Call.reading (Reading.peek t)) w e = λ s is. r.peeks o cs ws t w e s is
      reads (Call.reading Reading.tally) w e = r.tallies o cs ws
      reads (Call.reading (Reading.owed t)) w e = λ s is. r.owes o cs ws t w e s is

module _ (M K : Machine) (P : Placing) (d : Demand2 M) (r : RuleOfNext M P) (f : Demand2 K) (g : RuleOfNext K P) (o : Opening) where
  abbrev T : ℕ
  T = table_slots o

  abbrev R : ℕ
  R = shelf_entries o

  pub record OneHistory (cs : List Call) : Type 0 where
    pub tell : past K o cs ≡ past M o cs
    pub before : all_told (events K o cs) ≡ all_told (events M o cs)
    pub places : places_after K P o cs ≡ places_after M P o cs

  module _ (cs : List Call) (ws : All Within cs) (z : OneHistory cs) (c : Call) (w : Within c) where
    there : Right o.n T R (past M o cs) (places_after M P o cs) (sized M P d r o cs ws) c (K (bytes_after K o cs) c).answer (K (bytes_after K o cs) c).out
    there = move (past M o cs) (places_after M P o cs) (sized M P d r o cs ws) z.tell z.places (is_right K P f g o cs ws c w)
      where
        move : (h : History) (p : Places) (i : Sized T R p) → past K o cs ≡ h → places_after K P o cs ≡ p
            → Right o.n T R (past K o cs) (places_after K P o cs) (sized K P f g o cs ws) c (K (bytes_after K o cs) c).answer (K (bytes_after K o cs) c).out
            → Right o.n T R h p i c (K (bytes_after K o cs) c).answer (K (bytes_after K o cs) c).out
        move h p i eh ep x =
            resize (subst (λ (y : Places). (j : Sized T R y) → Right o.n T R h y j c (K (bytes_after K o cs) c).answer (K (bytes_after K o cs) c).out) ep
            (subst (λ (y : History). (j : Sized T R (places_after K P o cs)) → Right o.n T R y (places_after K P o cs) j c (K (bytes_after K o cs) c).answer (K (bytes_after K o cs) c).out) eh
            (λ j. record { answers = x.answers; reading = x.reading })))
          where
            resize : ((j : Sized T R p) → Right o.n T R h p j c (K (bytes_after K o cs) c).answer (K (bytes_after K o cs) c).out) → Right o.n T R h p i c (K (bytes_after K o cs) c).answer (K (bytes_after K o cs) c).out
            resize y = y i

    pub one-step : ((K (bytes_after K o cs) c).answer ≡ (M (bytes_after M o cs) c).answer)
        × (heard (past M o cs) c (K (bytes_after K o cs) c).answer (K (bytes_after K o cs) c).out ≡ heard (past M o cs) c (M (bytes_after M o cs) c).answer (M (bytes_after M o cs) c).out)
    one-step = same_step o.n T R (past M o cs) (places_after M P o cs) (sized M P d r o cs ws) c _ _ _ _ there (is_right M P d r o cs ws c w)

  pub one-history : (cs : List Call) → All Within cs → OneHistory cs
  unfolding events tells all_told placed
  one-history [] w = record { tell = refl; before = refl; places = refl }
  one-history (c ∷ cs) w = go (one-history cs w.1)
    where
      go : OneHistory cs → OneHistory (c ∷ cs)
      go z =
          let s = one-step cs w.1 z c w.0 in
          let e : heard (past K o cs) c (K (bytes_after K o cs) c).answer (K (bytes_after K o cs) c).out ≡ heard (past M o cs) c (M (bytes_after M o cs) c).answer (M (bytes_after M o cs) c).out =
          ap (λ (h : History). heard h c (K (bytes_after K o cs) c).answer (K (bytes_after K o cs) c).out) z.tell ∙ s.1 in
          record { tell = e; before = λ i. e i ∷ z.before i; places = λ i. moves (P (z.before i)) (z.tell i) (e i) (z.places i) c (s.0 i) }

  -- what next hands out
  pub same_outs : (cs : List Call) → All Within cs → (t b : ℕ) (x : List ℕ) → Within (Call.next t b x) → number (K (bytes_after K o cs) (Call.next t b x)).answer ≡ 0
      → (K (bytes_after K o cs) (Call.next t b x)).out ≡ (M (bytes_after M o cs) (Call.next t b x)).out
  same_outs cs ws t b x w z =
      same_out o.n T R (past M o cs) (places_after M P o cs) (sized M P d r o cs ws) t b x _ _ _ _ (there cs ws (one-history cs ws) (Call.next t b x) w) (is_right M P d r o cs ws (Call.next t b x) w) z

  -- the answer to every further call
  pub same-answers : (cs : List Call) → All Within cs → (c : Call) → Within c → (K (bytes_after K o cs) c).answer ≡ (M (bytes_after M o cs) c).answer
  same-answers cs ws c w = (one-step cs ws (one-history cs ws) c w).0
