-- A shelf of fewer than N times T entries fills up: T inserts, then N rounds of a begin and a modify of every record.
use mathlib.Core.Path.{◌≡◌, refl, sym, ap, ◌∙◌, subst}
use mathlib.Core.Bool.{Bool, true, false, not, ◌||◌, cond, false≢true, or-true}
use mathlib.Core.Option.{Option, none, some}
use mathlib.Core.List.Memᴰ
use mathlib.Core.List.{List, [], ◌∷◌, ◌++◌}
use mathlib.Core.Logic.{◌⊎◌, inl, inr}
use Prim.Native.Nat.{ℕ, zero, suc, ◌+◌, ◌*◌, ◌≤◌, ◌<◌}
use native.Mathlib.Nat.{suc-mul, zero-mul}
use native.Mathlib.Omega.{arith}
use native.Mathlib.Decide.{ℕ_discrete}
use lib.Dec.{eqb, leb}
use lib.ListN.{length, length-append}
use borrow.Author.Tests.{eqb-true, eq-eqb, ne_eqb, leb-false, lt-leb}
use Rattle.demands.specs.DemandThree.{NoSmaller}
use Rattle.demands.specs.DemandTwo.{Fulfils, Answers, Demand2}
use Rattle.demands.specs.History.{Version, version, scan, History, awaits, awaited, needed, numbered, remain, leaving, is_live, inserted, modified, begins, heard, tells}
use Rattle.rules.specs.Passed.{All}
use Rattle.demands.specs.Lists.{any, those}
use Rattle.demands.specs.Lives.{Opening, table_slots, shelf_entries, bytes_after, events, past}
use Rattle.demands.specs.Machine.{Machine, Within}
use Rattle.demands.specs.Reasons.{reasons, reason, no_room_for}
use Rattle.rules.specs.Answers.{Answer}
use Rattle.rules.specs.Refusals.{Call, Change, first_of, refused_as, called}
use Rattle.demands.proofs.machines.AnyMachine.{any_told}
use Rattle.demands.proofs.lists.Apart.{Apart, apart_across}
use Rattle.demands.proofs.history.Awaits.{awaits-first, awaits-not}
use Rattle.demands.proofs.page.DemandTwo.{demand_2}
use Rattle.demands.proofs.lists.Lists.{In, any_in, in_any, none_any, those_in, in_those, those-all, those-same}
use Rattle.demands.proofs.history.Past.{Past, number_of, change_of}
use Rattle.demands.proofs.machines.Small.{body_of, body_bytes}
use Rattle.stores.proofs.SoundDesk.{range}
use Rattle.stores.proofs.Spelling.{to_lengths}

-- ---- lists

-- one version of a number
pub one-leaves : (k : ℕ) (l : List Version) → Apart number_of l → any (numbered k) l ≡ true → length (leaving k l) ≡ 1
one-leaves k [] h e = absurd (false≢true e)
one-leaves k (v ∷ l) h e = go (numbered k v) refl (one-leaves k l h.1)
  where
    rest : numbered k v ≡ true → (l : List Version) → ((u : Version) → In u l → u.number ≡ v.number → ⊥) → those (numbered k) l ≡ []
    rest q [] f = refl
    rest q (u ∷ l) f = rw (ne_eqb u.number k (λ z. f u (Memᴰ.head refl) (z ∙ sym (eqb-true _ _ q)))) (rest q l (λ x i. f x (Memᴰ.tail i)))

    go : (b : Bool) → numbered k v ≡ b → (any (numbered k) l ≡ true → length (leaving k l) ≡ 1) → length (leaving k (v ∷ l)) ≡ 1
    go true q ih = rw (q, rest q l h.0) refl
    go false q ih = rw q (ih (sym (ap (λ (b : Bool). b || any (numbered k) l) q) ∙ e))

pub those-append : (p : Version → Bool) (l m : List Version) → those p (l ++ m) ≡ those p l ++ those p m
those-append p [] m = refl
those-append p (v ∷ l) m = go (p v) (those-append p l m)
  where
    go : (b : Bool) → those p (l ++ m) ≡ those p l ++ those p m → cond b (v ∷ those p (l ++ m)) (those p (l ++ m)) ≡ cond b (v ∷ those p l) (those p l) ++ those p m
    go true e = ap (λ (x : List Version). v ∷ x) e
    go false e = e

-- a first refusal read off its list
no_reason : (N T R : ℕ) (h : History) (k : ℕ) → 1 ≤ k → is_live h k ≡ true → no_room_for N T R h k ≡ false → reason N T R h (Call.change (Change.modify k (body_of 1))) ≡ none
unfolding reasons first_of body_of
no_reason N T R h k low live room = rw (ne_eqb k 0 (λ z. omega arith), live, room) refl

eight : (N T R : ℕ) (h : History) (k : ℕ) → 1 ≤ k → is_live h k ≡ true → no_room_for N T R h k ≡ true → reason N T R h (Call.change (Change.modify k (body_of 1))) ≡ some 8
unfolding reasons first_of body_of
eight N T R h k low live room = rw (ne_eqb k 0 (λ z. omega arith), live, room) refl

free-slot : (N T R : ℕ) (h : History) (k : ℕ) → 1 ≤ k → is_live h k ≡ false → leb T (length h.live) ≡ false → reason N T R h (Call.change (Change.insert k (body_of 1))) ≡ none
unfolding reasons first_of body_of
free-slot N T R h k low live room = rw (ne_eqb k 0 (λ z. omega arith), live, room) refl

free-position : (N T R : ℕ) (h : History) → leb N (length h.running) ≡ false → leb 4294967295 h.given ≡ false → reason N T R h Call.begin ≡ none
unfolding reasons first_of
free-position N T R h room more = rw (room, more) refl

modify-done : (T R : ℕ) (h : History) (k : ℕ) (b : List ℕ) (a : Answer) (o : List ℕ) → Fulfils T R h (Call.change (Change.modify k b)) a o → heard h (Call.change (Change.modify k b)) a o ≡ modified h k b
unfolding Fulfils heard
modify-done T R h k b a o f = rw f refl

insert-done : (T R : ℕ) (h : History) (k : ℕ) (b : List ℕ) (a : Answer) (o : List ℕ) → Fulfils T R h (Call.change (Change.insert k b)) a o → heard h (Call.change (Change.insert k b)) a o ≡ inserted h k b
unfolding Fulfils heard
insert-done T R h k b a o f = rw f refl

begin-done : (T R : ℕ) (h : History) (a : Answer) (o : List ℕ) → Fulfils T R h Call.begin a o → heard h Call.begin a o ≡ begins h (suc h.given)
unfolding Fulfils heard
begin-done T R h a o f = rw f refl

refused_8 : (k : ℕ) (b : List ℕ) → refused_as (Call.change (Change.modify k b)) 8 ≡ Answer.refused 8
unfolding refused_as
refused_8 k b = refl

past_more : (M : Machine) (o : Opening) (c : Call) (cs : List Call) → past M o (c ∷ cs) ≡ heard (past M o cs) c (M (bytes_after M o cs) c).answer (M (bytes_after M o cs) c).out
unfolding events tells
past_more M o c cs = refl

module _ (M : Machine) (d : Demand2 M) (o : Opening) where
  abbrev N : ℕ
  N = o.n

  abbrev T : ℕ
  T = table_slots o

  abbrev R : ℕ
  R = shelf_entries o

  t_small : table_slots o ≤ 16384
  t_small = (to_lengths o.old o.lengths).slots_most

  n_small : o.n ≤ 64
  n_small = (range o.n o.in_range).1

  abbrev pub Found : Type 0
  Found = (cs : List Call) × All Within cs × ((c : Call) × Within c × ((M (bytes_after M o cs) c).answer ≡ Answer.refused 8))

  granted : (cs : List Call) → All Within cs → (c : Call) → Within c → reason o.n (table_slots o) (shelf_entries o) (past M o cs) c ≡ none
      → Fulfils (table_slots o) (shelf_entries o) (past M o cs) c (M (bytes_after M o cs) c).answer (M (bytes_after M o cs) c).out
  granted cs ws c w e = subst (λ (x : Option ℕ). Answers (table_slots o) (shelf_entries o) (past M o cs) x c (M (bytes_after M o cs) c).answer (M (bytes_after M o cs) c).out) e (d.answers o cs ws c w)

  one-within : (k : ℕ) → k ≤ table_slots o → Within (Call.change (Change.modify k (body_of 1)))
  one-within k h = (omega (arith, t_small), body_bytes 1 (omega arith))

  -- ---- what a history holds: which numbers, how many scans, how many needed

  record Stage (h : History) (g i m : ℕ) : Type 0 where
    pub running : length h.running ≡ g
    pub given : h.given ≡ g
    pub live : (k : ℕ) → 1 ≤ k → k ≤ table_slots o → is_live h k ≡ true
    pub pending : (v : Version) → In v h.live → i < v.number → awaited h v ≡ true
    pub count : length (needed h) ≡ m
    pub fits : m ≤ shelf_entries o

  record At (g i m : ℕ) : Type 0 where
    pub calls : List Call
    pub within : All Within calls
    pub stage : Stage (past M o calls) g i m

  -- ---- one modify

  modified_stage : (h : History) (g i m : ℕ) → Past h → Stage h g i m → i < table_slots o → m < shelf_entries o → (b : List ℕ) → Stage (modified h (suc i) b) g (suc i) (suc m)
  unfolding awaited
  modified_stage h g i m q s hi hm b =
      record { running = s.running; given = s.given; live = live; pending = λ v j k. pending v (Memᴰ.cases_cons j) k; count = count; fits = hm }
    where
      live : (k : ℕ) → 1 ≤ k → k ≤ table_slots o → is_live (modified h (suc i) b) k ≡ true
      live k a c = go (ℕ_discrete k (suc i))
        where
          go : Dec (k ≡ suc i) → is_live (modified h (suc i) b) k ≡ true
          go (yes z) = rw (eq-eqb (suc i) k (sym z)) refl
          go (no z) =
              let w = in_any (numbered k) h.live (s.live k a c) in
              any_in (numbered k) (version (suc i) b h.changes ∷ remain (suc i) h.live) w.0
              (Memᴰ.tail (in_those (λ v. not (numbered (suc i) v)) h.live w.0 w.1 (rw (ne_eqb w.0.number (suc i) (λ y. z (sym (eqb-true _ _ w.2) ∙ y))) refl))) w.2

      pending : (v : Version) → (v ≡ version (suc i) b h.changes) ⊎ In v (remain (suc i) h.live) → suc i < v.number → awaited (modified h (suc i) b) v ≡ true
      pending v (inl e) k = let z : v.number ≡ suc i = ap number_of e in absurd (omega arith)
      pending v (inr j) k = s.pending v (those_in (λ v. not (numbered (suc i) v)) h.live v j).0 (omega arith)

      count : length (those (awaited h) (leaving (suc i) h.live ++ h.left)) ≡ suc m
      count =
          let a : those (awaited h) (leaving (suc i) h.live) ≡ leaving (suc i) h.live =
          those-all (awaited h) (leaving (suc i) h.live) (λ v j. let w = those_in (numbered (suc i)) h.live v j in let z : v.number ≡ suc i = eqb-true _ _ w.1 in s.pending v w.0 (omega arith)) in
          let c : length (leaving (suc i) h.live) ≡ 1 = one-leaves (suc i) h.live q.numbers (s.live (suc i) (omega arith) (omega arith)) in
          ap length (those-append (awaited h) (leaving (suc i) h.live) h.left ∙ ap (λ (x : List Version). x ++ those (awaited h) h.left) a) ∙ length-append (leaving (suc i) h.live) (those (awaited h) h.left) ∙ omega (arith, s.count)

  one-modify : (g i m : ℕ) → At g i m → i < table_slots o → Found ⊎ At g (suc i) (suc m)
  one-modify g i m x hi = go (leb (shelf_entries o) m) refl
    where
      w : Within (Call.change (Change.modify (suc i) (body_of 1)))
      w = one-within (suc i) hi

      isl : is_live (past M o x.calls) (suc i) ≡ true
      isl = x.stage.live (suc i) (omega arith) hi

      room : (b : Bool) → leb (shelf_entries o) m ≡ b → no_room_for o.n (table_slots o) (shelf_entries o) (past M o x.calls) (suc i) ≡ b
      room b e =
          let v = in_any (numbered (suc i)) (past M o x.calls).live isl in
          let z : v.0.number ≡ suc i = eqb-true _ _ v.2 in
          let a : any (awaited (past M o x.calls)) (leaving (suc i) (past M o x.calls).live) ≡ true =
          any_in (awaited (past M o x.calls)) (leaving (suc i) (past M o x.calls).live) v.0 (in_those (numbered (suc i)) (past M o x.calls).live v.0 v.1 v.2) (x.stage.pending v.0 v.1 (omega arith)) in
          rw (a, x.stage.count) e

      go : (b : Bool) → leb (shelf_entries o) m ≡ b → Found ⊎ At g (suc i) (suc m)
      go true e =
          let f = subst (λ (y : Option ℕ). Answers (table_slots o) (shelf_entries o) (past M o x.calls) y (Call.change (Change.modify (suc i) (body_of 1))) (M (bytes_after M o x.calls) (Call.change (Change.modify (suc i) (body_of 1)))).answer (M (bytes_after M o x.calls) (Call.change (Change.modify (suc i) (body_of 1)))).out)
          (eight o.n (table_slots o) (shelf_entries o) (past M o x.calls) (suc i) (omega arith) isl (room true e)) (d.answers o x.calls x.within (Call.change (Change.modify (suc i) (body_of 1))) w) in
          inl (x.calls, x.within, (Call.change (Change.modify (suc i) (body_of 1)), w, f ∙ refused_8 (suc i) (body_of 1)))
      go false e =
          let r = no_reason o.n (table_slots o) (shelf_entries o) (past M o x.calls) (suc i) (omega arith) isl (room false e) in
          let f = granted x.calls x.within (Call.change (Change.modify (suc i) (body_of 1))) w r in
          let s = modified_stage (past M o x.calls) g i m (any_told M d o x.calls x.within).0 x.stage hi (leb-false _ _ e) (body_of 1) in
          inr (record {
            calls = Call.change (Change.modify (suc i) (body_of 1)) ∷ x.calls;
            within = (w, x.within);
            stage = subst (λ (y : History). Stage y g (suc i) (suc m)) (sym (past_more M o (Call.change (Change.modify (suc i) (body_of 1))) x.calls ∙ modify-done (table_slots o) (shelf_entries o) (past M o x.calls) (suc i) (body_of 1) _ _ f)) s;
          })

  -- ---- one round

  modifies : (j g i m : ℕ) → i + j ≡ table_slots o → At g i m → Found ⊎ At g (table_slots o) (m + j)
  modifies zero g i m e x = inr (cast x (omega arith) (omega arith))
    where
      cast : At g i m → i ≡ table_slots o → m ≡ m + 0 → At g (table_slots o) (m + 0)
      cast x a b = subst (λ (y : ℕ). At g y (m + 0)) a (subst (λ (y : ℕ). At g i y) b x)
  modifies (suc j) g i m e x = go (one-modify g i m x (omega arith)) (λ y. modifies j g (suc i) (suc m) (omega arith) y)
    where
      cast : (a b : ℕ) → a ≡ b → At g (table_slots o) a → At g (table_slots o) b
      cast a b z y = subst (λ (k : ℕ). At g (table_slots o) k) z y

      done : Found ⊎ At g (table_slots o) (suc m + j) → Found ⊎ At g (table_slots o) (m + suc j)
      done (inl f) = inl f
      done (inr y) = inr (cast (suc m + j) (m + suc j) (omega arith) y)

      go : Found ⊎ At g (suc i) (suc m) → (At g (suc i) (suc m) → Found ⊎ At g (table_slots o) (suc m + j)) → Found ⊎ At g (table_slots o) (m + suc j)
      go (inl f) ih = inl f
      go (inr y) ih = done (ih y)

  begun_stage : (h : History) (g m : ℕ) → Past h → Stage h g (table_slots o) m → Stage (begins h (suc h.given)) (suc g) 0 m
  unfolding awaited
  begun_stage h g m q s =
      record {
        running = ap suc s.running;
        given = ap suc s.given;
        live = s.live;
        pending = λ v i k. rw (awaits-first (suc h.given) 0 h.live v i) refl;
        count = sym (ap length (those-same (awaited h) (awaited (begins h (suc h.given))) h.left (λ v i. ap (λ (b : Bool). b || any (λ u. awaits u v) h.running) (sym (skips v i))))) ∙ s.count;
        fits = s.fits;
      }
    where
      skips : (v : Version) → In v h.left → awaits (scan (suc h.given) h.live [] 0) v ≡ false
      skips v i = awaits-not (scan (suc h.given) h.live [] 0) v (λ u j z. apart_across change_of h.live h.left q.names u v j i z)

  one-begin : (g m : ℕ) → At g (table_slots o) m → g < o.n → At (suc g) 0 m
  one-begin g m x hg =
      let r = free-position o.n (table_slots o) (shelf_entries o) (past M o x.calls) (lt-leb o.n (length (past M o x.calls).running) (omega (arith, x.stage.running)))
      (lt-leb 4294967295 (past M o x.calls).given (omega (arith, x.stage.given, n_small))) in
      let f = granted x.calls x.within Call.begin tt r in
      record {
        calls = Call.begin ∷ x.calls;
        within = (tt, x.within);
        stage = subst (λ (y : History). Stage y (suc g) 0 m) (sym (past_more M o Call.begin x.calls ∙ begin-done (table_slots o) (shelf_entries o) (past M o x.calls) _ _ f)) (begun_stage (past M o x.calls) g m (any_told M d o x.calls x.within).0 x.stage);
      }

  rounds : (k g m : ℕ) → g + k ≡ o.n → At g (table_slots o) m → Found ⊎ At o.n (table_slots o) (m + k * table_slots o)
  rounds zero g m e x = inr (subst (λ (y : ℕ). At o.n (table_slots o) y) (omega (arith, zero-mul (table_slots o))) (subst (λ (y : ℕ). At y (table_slots o) m) (omega arith) x))
  rounds (suc k) g m e x = go (modifies (table_slots o) (suc g) 0 m (omega arith) (one-begin g m x (omega arith))) (λ y. rounds k (suc g) (m + table_slots o) (omega arith) y)
    where
      done : Found ⊎ At o.n (table_slots o) (m + table_slots o + k * table_slots o) → Found ⊎ At o.n (table_slots o) (m + suc k * table_slots o)
      done (inl f) = inl f
      done (inr y) = inr (subst (λ (z : ℕ). At o.n (table_slots o) z) (omega (arith, suc-mul k (table_slots o))) y)

      go : Found ⊎ At (suc g) (table_slots o) (m + table_slots o) → (At (suc g) (table_slots o) (m + table_slots o) → Found ⊎ At o.n (table_slots o) (m + table_slots o + k * table_slots o)) → Found ⊎ At o.n (table_slots o) (m + suc k * table_slots o)
      go (inl f) ih = inl f
      go (inr y) ih = done (ih y)

  -- ---- the inserts

  record Filled (h : History) (i : ℕ) : Type 0 where
    pub many : length h.live ≡ i
    pub low : (v : Version) → In v h.live → v.number ≤ i
    pub live : (k : ℕ) → 1 ≤ k → k ≤ i → is_live h k ≡ true
    pub none-run : h.running ≡ []
    pub none_left : h.left ≡ []
    pub none-given : h.given ≡ 0

  filled_more : (h : History) (i : ℕ) → Filled h i → (b : List ℕ) → Filled (inserted h (suc i) b) (suc i)
  filled_more h i f b =
      record { many = ap suc f.many; low = λ v j. low v (Memᴰ.cases_cons j); live = live; none-run = f.none-run; none_left = f.none_left; none-given = f.none-given }
    where
      low : (v : Version) → (v ≡ version (suc i) b h.changes) ⊎ In v h.live → v.number ≤ suc i
      low v (inl e) = let z : v.number ≡ suc i = ap number_of e in omega arith
      low v (inr j) = omega (arith, f.low v j)

      live : (k : ℕ) → 1 ≤ k → k ≤ suc i → is_live (inserted h (suc i) b) k ≡ true
      live k a c = go (ℕ_discrete k (suc i))
        where
          go : Dec (k ≡ suc i) → is_live (inserted h (suc i) b) k ≡ true
          go (yes z) = rw (eq-eqb (suc i) k (sym z)) refl
          go (no z) = rw (f.live k a (omega arith)) (or-true (eqb (suc i) k))

  record FilledAt (i : ℕ) : Type 0 where
    pub calls : List Call
    pub within : All Within calls
    pub filled : Filled (past M o calls) i

  inserts : (i : ℕ) → i ≤ table_slots o → FilledAt i
  unfolding events tells
  inserts zero h =
      record { calls = []; within = tt; filled = record { many = refl; low = λ v j. absurd (Memᴰ.not-nil j); live = λ k a c. absurd (omega arith); none-run = refl; none_left = refl; none-given = refl } }
  inserts (suc i) h = go (inserts i (omega arith))
    where
      go : FilledAt i → FilledAt (suc i)
      go x =
          let w : Within (Call.change (Change.insert (suc i) (body_of 1))) = one-within (suc i) h in
          let r = free-slot o.n (table_slots o) (shelf_entries o) (past M o x.calls) (suc i) (omega arith)
          (none_any (numbered (suc i)) (past M o x.calls).live (λ v j. ne_eqb v.number (suc i) (λ z. omega (arith, x.filled.low v j))))
          (lt-leb (table_slots o) (length (past M o x.calls).live) (omega (arith, x.filled.many))) in
          let f = granted x.calls x.within (Call.change (Change.insert (suc i) (body_of 1))) w r in
          record {
            calls = Call.change (Change.insert (suc i) (body_of 1)) ∷ x.calls;
            within = (w, x.within);
            filled = subst (λ (y : History). Filled y (suc i)) (sym (past_more M o (Call.change (Change.insert (suc i) (body_of 1))) x.calls ∙ insert-done (table_slots o) (shelf_entries o) (past M o x.calls) (suc i) (body_of 1) _ _ f)) (filled_more (past M o x.calls) i x.filled (body_of 1));
          }

  start : At 0 (table_slots o) 0
  start =
      let x = inserts (table_slots o) (omega arith) in
      record {
        calls = x.calls;
        within = x.within;
        stage = record {
          running = ap length x.filled.none-run;
          given = x.filled.none-given;
          live = x.filled.live;
          pending = λ v j k. absurd (omega (arith, x.filled.low v j));
          count = ap (λ (l : List Version). length (those (awaited (past M o x.calls)) l)) x.filled.none_left;
          fits = omega arith;
        };
      }

  pub fills_up : shelf_entries o < o.n * table_slots o → Found
  fills_up short = go (rounds o.n 0 0 (omega arith) start)
    where
      go : Found ⊎ At o.n (table_slots o) (0 + o.n * table_slots o) → Found
      go (inl f) = f
      go (inr x) = absurd (omega (arith, x.stage.fits))

pub no_smaller : (M : Machine) → Demand2 M → NoSmaller M
unfolding NoSmaller
no_smaller M d o short = fills_up M d o short

pub ours_no_smaller : NoSmaller called
ours_no_smaller = no_smaller called demand_2
