-- Next keeps the invariant, answers as demand 2 has it, and looks as the rule of next has it.
use mathlib.Core.Path.{◌≡◌, refl, sym, ap, ◌∙◌, subst}
use mathlib.Core.Bool.{Bool, true, false, not, cond}
use mathlib.Core.Option
use mathlib.Core.Option.{Option, none, some}
use mathlib.Core.List.{List, [], ◌∷◌, ◌++◌, map}
use Prim.Native.Nat.{ℕ, suc, ◌+◌, ◌-◌, ◌≤◌, ◌<◌}
use native.Mathlib.Nat.{add-zero, add_assoc}
use native.Mathlib.Omega.{arith}
use native.Mathlib.Decide.{ℕ_discrete}
use lib.Dec.{ltb}
use lib.ListN.{length, get_or, get_or-append}
use lib.Seq.{get_or-append-add}
use borrow.Author.Tests.{eqb-true, eqb-false, eq-eqb, ltb-true, ltb-false}
use Rattle.demands.specs.DemandTwo.{Goes}
use Rattle.demands.specs.History.{Version, Scan, scan, History, history, reads, awaits, awaited, ticketed, onward, goes_on, goes, finishes, runs, on_next}
use Rattle.demands.specs.Lists.{any, those, keep}
use Rattle.demands.specs.Placement.{due, Passes, LooksRight}
use Rattle.rules.specs.Answers.{Answer, Draw}
use Rattle.rules.specs.Calls.{card_of}
use Rattle.rules.specs.Memory.{Slot, Store, T, R, version}
use Rattle.rules.specs.Next.{in_table, on_shelf, table_look, shelf_look, look_at, look, at_end, finish, walk}
use Rattle.demands.proofs.history.Awaits.{awaits_passed}
use Rattle.demands.proofs.invariant.FinishKeeps.{exactly_once, finish-keeps, own as finished_own, other as finished_other}
use Rattle.demands.proofs.invariant.GoesOn.{seats_on, own, other}
use Rattle.demands.proofs.invariant.Invariant.{Inv, seat, busy, runs_at, at_live, at_needed, slot_of, entry_of}
use Rattle.demands.proofs.invariant.Moment.{Moment, later, scans_move, after_next, end}
use Rattle.demands.proofs.lists.Lists.{In, any_in, in_left, in_right}
use Rattle.demands.proofs.history.Past.{ever, ticket_of, awaited-began}
use Rattle.demands.proofs.lists.Places.{At, keep_all}
use Rattle.demands.proofs.invariant.ShelfLooks.{shelf_found, shelf-not-here, shelf_pass_keeps, shelf-hit-keeps}
use Rattle.demands.proofs.invariant.TableLooks.{table_found, table-not-here, table_pass_keeps, table-hit-keeps}
use Rattle.rules.proofs.Walk.{walk_ind}

-- ---- looks made one after another

onward_twice : (t a b : ℕ) (o : List (List ℕ)) (u : Scan) → goes_on t b o (goes_on t a [] u) ≡ goes_on t (a + b) o u
onward_twice t a b o u = go (ticketed t u) refl
  where
    go : (x : Bool) → ticketed t u ≡ x → goes_on t b o (goes_on t a [] u) ≡ goes_on t (a + b) o u
    go true e = rw (e, e) (ap (λ (l : ℕ). scan u.ticket u.began (o ++ u.handed) l) (add_assoc u.looks a b))
    go false e = rw (e, e) refl

map_twice : (t a b : ℕ) (o : List (List ℕ)) (l : List Scan) → map (goes_on t b o) (map (goes_on t a []) l) ≡ map (goes_on t (a + b) o) l
map_twice t a b o [] = refl
map_twice t a b o (u ∷ l) = rw (onward_twice t a b o u, map_twice t a b o l) refl

goes_twice : (h : History) (t a b : ℕ) (o : List (List ℕ)) → goes (goes h t a []) t b o ≡ goes h t (a + b) o
goes_twice h t a b o = ap (λ (l : List Scan). history h.changes h.live h.left h.given l) (map_twice t a b o h.running)

goes_none : (h : History) (t : ℕ) → goes h t 0 [] ≡ h
goes_none h t = ap (λ (l : List Scan). history h.changes h.live h.left h.given l) (all h.running)
  where
    one : (u : Scan) (x : Bool) → cond x (onward 0 [] u) u ≡ u
    one u true = ap (λ (l : ℕ). scan u.ticket u.began u.handed l) (add-zero u.looks)
    one u false = refl

    all : (l : List Scan) → map (goes_on t 0 []) l ≡ l
    all [] = refl
    all (u ∷ l) = rw (one u (ticketed t u), all l) refl

finishes-after : (h : History) (t a : ℕ) → finishes (goes h t a []) t ≡ finishes h t
finishes-after h t a = ap (λ (l : List Scan). history h.changes h.live h.left h.given l) (all h.running)
  where
    one : (u : Scan) (l m : List Scan) → l ≡ m → (x : Bool) → ticketed t u ≡ x → cond (not (ticketed t (goes_on t a [] u))) (goes_on t a [] u ∷ l) l ≡ cond (not (ticketed t u)) (u ∷ m) m
    one u l m e true f = rw (f, f) e
    one u l m e false f = rw (f, f) (ap (λ (x : List Scan). u ∷ x) e)

    all : (l : List Scan) → those (λ s. not (ticketed t s)) (map (goes_on t a []) l) ≡ those (λ s. not (ticketed t s)) l
    all [] = refl
    all (u ∷ l) = one u (those (λ s. not (ticketed t s)) (map (goes_on t a []) l)) (those (λ s. not (ticketed t s)) l) (all l) (ticketed t u) refl

-- no scan of a ticket runs where those of that ticket are left out
left_out : (t : ℕ) (l : List Scan) → any (ticketed t) (those (λ s. not (ticketed t s)) l) ≡ false
left_out t [] = refl
left_out t (s ∷ l) = go (ticketed t s) refl (left_out t l)
  where
    go : (b : Bool) → ticketed t s ≡ b → any (ticketed t) (those (λ s. not (ticketed t s)) l) ≡ false → any (ticketed t) (those (λ s. not (ticketed t s)) (s ∷ l)) ≡ false
    go true e ih = rw e ih
    go false e ih = rw e (rw e ih)

-- ---- one look

-- nothing on the shelf is unawaited
pub shelf-awaited : {now : Moment} → Inv now → map (keep (awaited now.history)) now.shelf ≡ now.shelf
shelf-awaited {now} q = keep_all (awaited now.history) now.shelf (λ k v e. (at_needed q k v e).1)

none-leaves : {now : Moment} → Inv now → Inv (after_next now now.store now.history now.seats)
none-leaves {now} q = subst (λ (y : List (Option Version)). Inv (later now now.store now.history now.table y now.seats)) (sym (shelf-awaited q)) q

-- "the 56 bytes of number and body"
abbrev slot_reads : Slot → List ℕ
slot_reads w = version w

module _ {now : Moment} (q : Inv now) where
  pub row-table : (i : ℕ) → i < now.t → get_or (now.table ++ now.shelf) i none ≡ get_or now.table i none
  row-table i e = get_or-append now.table now.shelf none i (omega (arith, q.slots))

  pub row-shelf : (i k : ℕ) → i ≡ now.t + k → get_or (now.table ++ now.shelf) i none ≡ get_or now.shelf k none
  row-shelf i k e = let z : i ≡ length now.table + k = omega (arith, q.slots) in ap (λ (x : ℕ). get_or (now.table ++ now.shelf) x none) z ∙ get_or-append-add now.table now.shelf k none

  pub ticket-runs : (i : ℕ) (s : Scan) → At now.seats i s → runs now.history s.ticket ≡ true
  ticket-runs i s e = any_in (ticketed s.ticket) now.history.running s (runs_at q i s e) (eq-eqb s.ticket s.ticket refl)

  module _ (p : ℕ) (s : Scan) (here : At now.seats p s) (more : s.looks < end now) where
    -- a version that the look brought, and the bytes it is handed out as
    pub record Brought (X : Store) (w : Slot) : Type 0 where
      pub version : Version
      pub stands : At (now.table ++ now.shelf) s.looks version
      pub made : In version (ever now.history)
      pub waited : awaits s version ≡ true
      pub bytes : slot_reads w ≡ reads version
      pub keeps : Inv (after_next now X (goes now.history s.ticket 1 (reads version ∷ [])) (seats_on now s 1 (reads version ∷ [])))

    pub record Nothing (X : Store) : Type 0 where
      pub passes : due s (get_or (now.table ++ now.shelf) s.looks none) ≡ false
      pub keeps : Inv (scans_move now X (goes now.history s.ticket 1 []) (seats_on now s 1 []))

    abbrev pub Looked : Store → Option Slot → Type 0
    Looked X none = Nothing X
    Looked X (some w) = Brought X w

    at_looks : (card_of now.store p).place ≡ s.looks
    at_looks = (seat q p s here).place

    not-due : (o : Option Version) → ((v : Version) → o ≡ some v → awaits s v ≡ false) → due s o ≡ false
    not-due none f = refl
    not-due (some v) f = f v refl

    in_table_lem : (x : Bool) → in_table now.store p (card_of now.store p).place ≡ x → s.looks < now.t → Looked (table_look x now.store p (card_of now.store p).place).0 (table_look x now.store p (card_of now.store p).place).1
    unfolding table_look
    in_table_lem true e early =
        let f = table_found q p s here early e in
        let w = slot_of q (card_of now.store p).place f.0 f.1 in
        record {
          version = f.0;
          stands = row-table s.looks early ∙ subst (λ (x : ℕ). At now.table x f.0) at_looks f.1;
          made = in_left f.0 now.history.live now.history.left (at_live q (card_of now.store p).place f.0 f.1);
          waited = f.2;
          bytes = rw (w.number, w.body) refl;
          keeps = table-hit-keeps q p s here early e;
        }
    in_table_lem false e early =
        record {
          passes = not-due (get_or (now.table ++ now.shelf) s.looks none)
              (λ v z. table-not-here q p s here early e v (subst (λ (x : ℕ). At now.table x v) (sym at_looks) (sym (row-table s.looks early) ∙ z)));
          keeps = table_pass_keeps q p s here early e;
        }

    on_shelf_lem : (x : Bool) → on_shelf now.store p ((card_of now.store p).place - T now.store) ≡ x → now.t ≤ s.looks → Looked (shelf_look x now.store p ((card_of now.store p).place - T now.store)).0 (shelf_look x now.store p ((card_of now.store p).place - T now.store)).1
    unfolding shelf_look
    on_shelf_lem true e late =
        let f = shelf_found q p s here late more e in
        let w = entry_of q ((card_of now.store p).place - T now.store) f.0 f.1 in
        record {
          version = f.0;
          stands = row-shelf s.looks ((card_of now.store p).place - T now.store) (omega (arith, at_looks, q.is_t)) ∙ f.1;
          made = in_right f.0 now.history.live now.history.left (at_needed q ((card_of now.store p).place - T now.store) f.0 f.1).0;
          waited = f.2;
          bytes = rw (w.number, w.body) refl;
          keeps = shelf-hit-keeps q p s here late more e;
        }
    on_shelf_lem false e late =
        record {
          passes = not-due (get_or (now.table ++ now.shelf) s.looks none)
              (λ v z. shelf-not-here q p s here late more e v (sym (row-shelf s.looks ((card_of now.store p).place - T now.store) (omega (arith, at_looks, q.is_t))) ∙ z));
          keeps = shelf_pass_keeps q p s here late more e;
        }

    pub look-keeps : Looked (look now.store p).0 (look now.store p).1
    unfolding look_at
    look-keeps = go (ltb (card_of now.store p).place (T now.store)) refl
      where
        go : (x : Bool) → ltb (card_of now.store p).place (T now.store) ≡ x → Looked (look_at x now.store p (card_of now.store p).place).0 (look_at x now.store p (card_of now.store p).place).1
        go true e = in_table_lem (in_table now.store p (card_of now.store p).place) refl (let z : (card_of now.store p).place < T now.store = ltb-true _ _ e in omega (arith, at_looks, q.is_t))
        go false e = on_shelf_lem (on_shelf now.store p ((card_of now.store p).place - T now.store)) refl (let z : T now.store ≤ (card_of now.store p).place = ltb-false _ _ e in omega (arith, at_looks, q.is_t))

-- ---- all the looks of a call

module _ {now : Moment} (q : Inv now) (p : ℕ) (s : Scan) (here : At now.seats p s) (budget : ℕ) (o : List ℕ) where
  -- after l looks that brought nothing, with b more to make
  pub record Going (X : Store) (l b : ℕ) : Type 0 where
    pub seats : List (Option Scan)
    pub keeps : Inv (scans_move now X (goes now.history s.ticket l []) seats)
    pub there : At seats p (onward l [] s)
    pub others : (i : ℕ) → (i ≡ p → ⊥) → get_or seats i none ≡ get_or now.seats i none
    pub spent : l + b ≡ budget
    pub passes : Passes (now.table ++ now.shelf) s l

  -- what is known of the answer
  pub record Answered (a : Answer) (X : Store) (out : List ℕ) : Type 0 where
    pub seats : List (Option Scan)
    pub keeps : Inv (after_next now X (on_next a now.history s.ticket out) seats)
    -- the scan's own position, and the others
    pub own : keep (runs (on_next a now.history s.ticket out)) (some s.ticket) ≡ Option.map ticket_of (get_or seats p none)
    pub others : (i : ℕ) → (i ≡ p → ⊥) → get_or seats i none ≡ get_or now.seats i none
    pub right : Goes now.t now.r s budget out a
    pub looks : LooksRight (now.table ++ now.shelf) s out a

  begin-here : Going now.store 0 budget
  begin-here =
      record {
        seats = now.seats;
        keeps = subst (λ (g : History). Inv (scans_move now now.store g now.seats)) (sym (goes_none now.history s.ticket)) q;
        there = here ∙ ap some (ap (λ (l : ℕ). scan s.ticket s.began s.handed l) (sym (add-zero s.looks)));
        others = λ i d. refl;
        spent = omega arith;
        passes = λ i k. absurd (omega arith);
      }

  module _ (X : Store) (l b : ℕ) (g : Going X l b) where
    stand : (card_of X p).place ≡ s.looks + l
    stand = (seat g.keeps p (onward l [] s) g.there).place

    at_end_lem : at_end X p ≡ true → s.looks + l ≡ end now
    at_end_lem e = let z : (card_of X p).place ≡ T X + R X = eqb-true _ _ e in omega (arith, stand, g.keeps.is_t, g.keeps.is_r)

    not_end : at_end X p ≡ false → s.looks + l < end now
    not_end e =
        let z : (card_of X p).place < T X + R X = less (card_of X p).place (T X + R X) (eqb-false _ _ e) (busy g.keeps p (onward l [] s) g.there).place in
        omega (arith, stand, g.keeps.is_t, g.keeps.is_r)
      where
        less : (x y : ℕ) → (x ≡ y → ⊥) → x ≤ y → x < y
        less x y d e = omega arith

    stop : at_end X p ≡ true → Answered (Answer.drew (Draw.finished l b (card_of X p).handed)) (finish X p) o
    stop e =
        let z = at_end_lem e in
        let g₁ = goes now.history s.ticket l [] in
        let fk = finish-keeps g.keeps p (onward l [] s) g.there z in
        let fs = finishes-after now.history s.ticket l in
        let k = subst (λ (x : History). Inv (scans_move now (finish X p) x (map (keep (λ u. not (ticketed s.ticket u))) g.seats))) fs fk in
        record {
          seats = map (keep (λ u. not (ticketed s.ticket u))) g.seats;
          keeps = none-leaves k;
          own = rw (left_out s.ticket now.history.running, finished_own g.keeps p (onward l [] s) g.there z) refl;
          others = λ i d. finished_other g.keeps p (onward l [] s) g.there z i d ∙ g.others i d;
          right = (exactly_once g.keeps p (onward l [] s) g.there z, (seat g.keeps p (onward l [] s) g.there).handed, g.spent, z);
          looks = g.passes;
        }

    rest : b ≡ 0 → at_end X p ≡ false → Answered (Answer.drew (Draw.paused l)) X o
    rest z e =
        record {
          seats = g.seats;
          keeps = none-leaves g.keeps;
          own = rw (ticket-runs g.keeps p (onward l [] s) g.there, g.there) refl;
          others = g.others;
          right = (omega (arith, g.spent), not_end e);
          looks = g.passes;
        }

  module _ (X : Store) (l b : ℕ) (g : Going X l (suc b)) (e : at_end X p ≡ false) where
    abbrev g₁ : History
    g₁ = goes now.history s.ticket l []

    abbrev s₁ : Scan
    s₁ = onward l [] s

    looked : (w : Option Slot) → (look X p).1 ≡ w → Looked g.keeps p s₁ g.there (not_end X l (suc b) g e) (look X p).0 w
    looked w z = subst (Looked g.keeps p s₁ g.there (not_end X l (suc b) g e) (look X p).0) z (look-keeps g.keeps p s₁ g.there (not_end X l (suc b) g e))

    one_more : (x : List (List ℕ)) → goes g₁ s.ticket 1 x ≡ goes now.history s.ticket (suc l) x
    one_more x = goes_twice now.history s.ticket l 1 x ∙ ap (λ (y : ℕ). goes now.history s.ticket y x) (suc_is l)
      where
        suc_is : (l : ℕ) → l + 1 ≡ suc l
        suc_is l = omega arith

    pass : (look X p).1 ≡ none → Going (look X p).0 (suc l) b
    pass z =
        let w : Nothing g.keeps p s₁ g.there (not_end X l (suc b) g e) (look X p).0 = looked none z in
        record {
          seats = seats_on (scans_move now X g₁ g.seats) s₁ 1 [];
          keeps = subst (λ (x : History). Inv (scans_move now (look X p).0 x (seats_on (scans_move now X g₁ g.seats) s₁ 1 []))) (one_more []) w.keeps;
          there = own g.keeps p s₁ g.there 1 [] ∙ ap some (ap (λ (y : ℕ). scan s.ticket s.began s.handed y) (plus s.looks l));
          others = λ i d. other g.keeps p s₁ g.there 1 [] i d ∙ g.others i d;
          spent = omega (arith, g.spent);
          passes = λ i k. passes w i k (ℕ_discrete i l);
        }
      where
        plus : (a l : ℕ) → a + l + 1 ≡ a + suc l
        plus a l = omega arith

        due-same : (x : Option Version) → due s₁ x ≡ due s x
        due-same none = refl
        due-same (some v) = awaits_passed l s v

        passes : Nothing g.keeps p s₁ g.there (not_end X l (suc b) g e) (look X p).0 → (i : ℕ) → i < suc l → Dec (i ≡ l) → due s (get_or (now.table ++ now.shelf) (s.looks + i) none) ≡ false
        passes w i k (yes d) = rw d (sym (due-same (get_or (now.table ++ now.shelf) (s.looks + l) none)) ∙ w.passes)
        passes w i k (no d) = g.passes i (omega arith)

    hit : (w : Slot) → (look X p).1 ≡ some w → Answered (Answer.drew (Draw.in_hand (suc l) b)) (look X p).0 (version w)
    hit w z =
        let f : Brought g.keeps p s₁ g.there (not_end X l (suc b) g e) (look X p).0 w = looked (some w) z in
        let a : awaits s f.version ≡ true = sym (awaits_passed l s f.version) ∙ f.waited in
        let u : List (Option Scan) = seats_on (scans_move now X g₁ g.seats) s₁ 1 (reads f.version ∷ []) in
        let k = subst (λ (x : History). Inv (after_next now (look X p).0 x u)) (one_more (reads f.version ∷ [])) f.keeps in
        let e₁ : At u p (onward 1 (reads f.version ∷ []) s₁) = own g.keeps p s₁ g.there 1 (reads f.version ∷ []) in
        let m = subst (λ (x : List ℕ). Inv (after_next now (look X p).0 (goes now.history s.ticket (suc l) (x ∷ [])) u)) (sym f.bytes) k in
        record {
          seats = u;
          keeps = m;
          own = rw (ticket-runs m p (onward 1 (reads f.version ∷ []) s₁) e₁, e₁) refl;
          others = λ i d. other g.keeps p s₁ g.there 1 (reads f.version ∷ []) i d ∙ g.others i d;
          right = ((f.version, awaited-began now.history q.past s (runs_at q p s here) f.version f.made a, a, f.bytes), omega arith, omega (arith, g.spent), omega (arith, not_end X l (suc b) g e));
          looks = (l, refl, g.passes, (f.version, f.stands, a, f.bytes));
        }

  -- every call of next to a running scan
  pub next-keeps : Answered (walk now.store p budget 0 o).answer (walk now.store p budget 0 o).after (walk now.store p budget 0 o).out
  next-keeps =
      walk_ind p o Going (λ w. Answered w.answer w.after w.out) (λ X l b g e. stop X l b g e) (λ X l g e. rest X l 0 g refl e) (λ X l b g e z. pass X l b g e z) (λ X l b w g e z. hit X l b g e w z) budget now.store 0
      begin-here
