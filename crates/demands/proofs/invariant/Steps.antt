-- Every call that no reason refuses keeps the invariant, and is answered as demand 2 and the rule of next have it.
use mathlib.Core.Path.{◌≡◌, refl, sym, ap, ◌∙◌, subst}
use mathlib.Core.Bool.{Bool, true, false, not, ◌&&◌, cond, false≢true}
use mathlib.Core.Option.{Option, none, some, some-injective}
use mathlib.Core.List.{List, [], ◌++◌, map}
use Prim.Native.Nat.{ℕ, suc, ◌+◌, ◌≤◌, ◌<◌}
use native.Mathlib.Omega.{arith}
use lib.Dec.{eqb, ltb}
use lib.ListN.{length, get_or, set}
use lib.Seq.{get_or-set_other}
use borrow.Author.Tests.{ltb-true, eqb-true, eq-eqb, ne_eqb, not-false}
use Rattle.demands.specs.DemandTwo.{Going, Fulfils}
use Rattle.demands.specs.History.{Version, version, Scan, scan, History, begins, awaited, modified, deleted, on_next, runs, scan_of, heard, is_live}
use Rattle.demands.specs.Lists.{keep}
use Rattle.demands.specs.Machine.{Within}
use Rattle.demands.specs.Placement.{IfThereIsOne, TakesEmpty, is_empty, lowest_empty, lowest_of, lowest, Places, places, bears, place_of, shelve, moves, LooksRight}
use Rattle.rules.specs.Answers.{Answer}
use Rattle.rules.specs.Calls.{first, slot_in, bearing, empty_slot, shelf_entry, free_position, position_of, unawaited, changed, given}
use Rattle.rules.specs.Masks.{bit, on}
use Rattle.rules.specs.Memory.{Slot, Store, R}
use Rattle.rules.specs.Next.{walk}
use Rattle.rules.specs.Refusals.{Call, Change, own_right, there, no_room, own_refusals, effect}
use Rattle.rules.proofs.First.{first_found, first-lowest}
use Rattle.stores.proofs.FirstOf.{Untrue}
use Rattle.demands.proofs.invariant.BeginKeeps.{free_seat, begin-keeps}
use Rattle.demands.proofs.invariant.ChangesKeep.{insert-keeps, modify-keeps, delete-keeps}
use Rattle.demands.proofs.page.DemandOne.{unrefused}
use Rattle.demands.proofs.invariant.Invariant.{NumberOK, Inv, n_64, table_numbers, shelf_numbers, gt_length, gs_length, unawaited_is, runs_at, resting, ticket-left}
use Rattle.demands.proofs.invariant.Moment.{Moment, later, scans_move, versions_move, after_next}
use Rattle.demands.proofs.invariant.NextKeeps.{next-keeps}
use Rattle.demands.proofs.lists.Places.{At}
use Rattle.demands.proofs.invariant.Positions.{tickets, begun_sits, next_sits}
use Rattle.demands.proofs.invariant.ReasonsAre.{version_of, there_is, scan_at, scan_of_lem}
use Rattle.stores.proofs.Stays.{some_number}

-- ---- the lowest empty place

empty-none : {A : Type 0} (o : Option A) → is_empty o ≡ true → o ≡ none
empty-none none e = refl
empty-none (some v) e = absurd (false≢true e)

lowest-empty : {A : Type 0} → IfThereIsOne {A = A} lowest_empty
lowest-empty l j h e =
    let f : lowest_empty l ≤ j = first-lowest (λ i. is_empty (get_or l i none)) 0 (length l) j (omega arith) (ap is_empty e) in
    let b : lowest_empty l < length l = omega arith in
    (b, empty-none (get_or l (lowest_empty l) none) (first_found (λ i. is_empty (get_or l i none)) 0 (length l) (omega arith)))

pub lowest_takes : TakesEmpty lowest
lowest_takes = record { slot = λ before. lowest-empty; entry = λ before. lowest-empty; scan = λ before. lowest-empty }

-- the slots' tests and the places' come to the same
module _ (l : List Slot) (g : List (Option Version)) (len : length g ≡ length l) (ok : (i : ℕ) → NumberOK (slot_in l i) (get_or g i none)) where
  pub lowest_is : empty_slot l ≡ lowest_empty g
  lowest_is = ap (λ (f : ℕ → Bool). first f 0 (length l)) (λ j i. test i j) ∙ ap (λ (n : ℕ). first (λ i. is_empty (get_or g i none)) 0 n) (sym len)
    where
      go : (s : Slot) (o : Option Version) → NumberOK s o → eqb s.number 0 ≡ is_empty o
      go s none w = eq-eqb _ _ w
      go s (some v) w = let z : 1 ≤ s.number = w.1 in ne_eqb s.number 0 (λ y. omega arith)

      test : (i : ℕ) → eqb (slot_in l i).number 0 ≡ is_empty (get_or g i none)
      test i = go (slot_in l i) (get_or g i none) (ok i)

  pub place_is : (k : ℕ) → 1 ≤ k → bearing l k ≡ place_of g k
  place_is k low = ap (λ (f : ℕ → Bool). first f 0 (length l)) (λ j i. test i j) ∙ ap (λ (n : ℕ). first (λ i. bears k (get_or g i none)) 0 n) (sym len)
    where
      go : (s : Slot) (o : Option Version) → NumberOK s o → eqb s.number k ≡ bears k o
      go s none w = ne_eqb s.number k (λ y. omega arith)
      go s (some v) w = ap (λ (x : ℕ). eqb x k) w.0

      test : (i : ℕ) → eqb (slot_in l i).number k ≡ bears k (get_or g i none)
      test i = go (slot_in l i) (get_or g i none) (ok i)

module _ {now : Moment} (q : Inv now) (ps : List (Option ℕ)) (is_ps : ps ≡ tickets now.seats) where
  abbrev after : Call → Answer → List ℕ → Places
  after c a out = moves lowest_of now.history (heard now.history c a out) (places now.table now.shelf ps) c a

  -- what next looked at
  abbrev Looked : Call → Answer → List ℕ → Type 0
  Looked (Call.opening x) a out = Unit
  Looked (Call.change c) a out = Unit
  Looked Call.begin a out = Unit
  Looked (Call.next k b o) a out = (s : Scan) → scan_of now.history k ≡ some s → LooksRight (now.table ++ now.shelf) s out a
  Looked (Call.reading q) a out = Unit

  pub record Stepped (c : Call) (a : Answer) (X : Store) (out : List ℕ) : Type 0 where
    pub seats : List (Option Scan)
    pub keeps : Inv (later now X (heard now.history c a out) (after c a out).table (after c a out).shelf seats)
    pub sits : (after c a out).positions ≡ tickets seats
    -- a call moves the scan of one position at most
    pub mover : ℕ
    pub others : (i : ℕ) → (i ≡ mover → ⊥) → get_or seats i none ≡ get_or now.seats i none
    pub fulfils : Fulfils now.t now.r now.history c a out
    pub looked : Looked c a out

  -- a change, which moves no scan
  calm : (c : Change) (X : Store) → (after (Call.change c) Answer.done []).positions ≡ ps
      → Inv (versions_move now X (heard now.history (Call.change c) Answer.done []) (after (Call.change c) Answer.done []).table (after (Call.change c) Answer.done []).shelf) → Stepped (Call.change c) Answer.done X []
  unfolding Fulfils
  calm c X e i = record { seats = now.seats; keeps = i; sits = e ∙ is_ps; mover = 0; others = λ i d. refl; fulfils = refl; looked = tt }

  -- ---- modify and delete

  module _ (k : ℕ) (low : 1 ≤ k) (is : there now.store k ≡ true) (room : no_room now.store k ≡ false) where
    w : (v : Version) × At now.table (bearing now.store.table k) v × (v.number ≡ k)
    w = version_of q k low is

    has_room : awaited now.history w.0 ≡ true → shelf_entry now.store < R now.store
    has_room a = ltb-true _ _ (go (unawaited now.store (bearing now.store.table k)) (ltb (shelf_entry now.store) (R now.store)) (unawaited_is q (bearing now.store.table k) w.0 w.1 ∙ ap not a) room)
      where
        go : (x y : Bool) → x ≡ false → not x && not y ≡ false → y ≡ true
        go true y e f = absurd (false≢true (sym e))
        go false true e f = refl
        go false false e f = sym f

    spot : bearing now.store.table k ≡ place_of now.table k
    spot = place_is now.store.table now.table (gt_length q) (table_numbers q) k low

    free : shelf_entry now.store ≡ lowest_empty now.shelf
    free = lowest_is now.store.shelf now.shelf (gs_length q) (shelf_numbers q)

    -- what is shelved
    shelved : cond (awaited now.history w.0) (set now.shelf (shelf_entry now.store) (some w.0)) now.shelf ≡ shelve lowest_of now.history now.shelf (get_or now.table (place_of now.table k) none)
    shelved =
        ap (λ (x : ℕ). cond (awaited now.history w.0) (set now.shelf x (some w.0)) now.shelf) free
        ∙ ap (λ (o : Option Version). shelve lowest_of now.history now.shelf o) (sym w.1 ∙ ap (λ (x : ℕ). get_or now.table x none) spot)

  modify_steps : (k : ℕ) (b : List ℕ) → Within (Call.change (Change.modify k b)) → own_right (Call.change (Change.modify k b)) ≡ true → Untrue (own_refusals now.store (Call.change (Change.modify k b)))
      → Stepped (Call.change (Change.modify k b)) Answer.done (changed now.store (bearing now.store.table k) (some b)) []
  unfolding own_right own_refusals heard moves Fulfils
  modify_steps k b wi own u =
      let low = some_number k u.0 in
      let is = not-false _ u.1.1.0 in
      let v = w k low is u.1.1.1.0 in
      let e : v.0.number ≡ k = v.2 in
      let i = modify-keeps q (bearing now.store.table k) v.0 v.1 (has_room k low is u.1.1.1.0) b (omega arith) (eqb-true _ _ own) wi.1 in
      calm (Change.modify k b) (changed now.store (bearing now.store.table k) (some b)) refl
      (subst Inv (λ x. versions_move now (changed now.store (bearing now.store.table k) (some b)) (modified now.history (e x) b)
      (set now.table (spot k low is u.1.1.1.0 x) (some (version (e x) b now.history.changes))) (shelved k low is u.1.1.1.0 x)) i)

  delete_steps : (k : ℕ) → Untrue (own_refusals now.store (Call.change (Change.delete k))) → Stepped (Call.change (Change.delete k)) Answer.done (changed now.store (bearing now.store.table k) none) []
  unfolding own_refusals heard moves Fulfils
  delete_steps k u =
      let low = some_number k u.0 in
      let is = not-false _ u.1.0 in
      let v = w k low is u.1.1.0 in
      let e : v.0.number ≡ k = v.2 in
      let i = delete-keeps q (bearing now.store.table k) v.0 v.1 (has_room k low is u.1.1.0) in
      calm (Change.delete k) (changed now.store (bearing now.store.table k) none) refl
      (subst Inv (λ x. versions_move now (changed now.store (bearing now.store.table k) none) (deleted now.history (e x)) (set now.table (spot k low is u.1.1.0 x) none) (shelved k low is u.1.1.0 x)) i)

  -- ---- insert, begin, next

  insert_steps : (k : ℕ) (b : List ℕ) → Within (Call.change (Change.insert k b)) → own_right (Call.change (Change.insert k b)) ≡ true → Untrue (own_refusals now.store (Call.change (Change.insert k b)))
      → Stepped (Call.change (Change.insert k b)) Answer.done (Rattle.rules.specs.Calls.inserted now.store k b) []
  unfolding own_right own_refusals heard moves Fulfils
  insert_steps k b wi own u =
      let low = some_number k u.0 in
      let a : is_live now.history k ≡ false = sym (there_is q k low) ∙ u.1.1.0 in
      let i = insert-keeps q k b low wi.0 (eqb-true _ _ own) wi.1 a (ltb-true _ _ (not-false _ u.1.1.1.0)) in
      calm (Change.insert k b) (Rattle.rules.specs.Calls.inserted now.store k b) refl
      (subst (λ (x : ℕ). Inv (versions_move now (Rattle.rules.specs.Calls.inserted now.store k b) (Rattle.demands.specs.History.inserted now.history k b) (set now.table x (some (version k b now.history.changes))) now.shelf))
      (lowest_is now.store.table now.table (gt_length q) (table_numbers q)) i)

  begin_steps : Untrue (own_refusals now.store Call.begin) → Stepped Call.begin (Answer.begun (now.store.desk.last + 1)) (given now.store (free_position now.store)) []
  unfolding own_refusals heard moves Fulfils
  begin_steps u =
      let p : free_position now.store < now.store.desk.n = ltb-true _ _ (not-false _ u.0) in
      let a : bit now.store.desk.masks.active (free_position now.store) ≡ 1 = eqb-true _ _ (first_found (λ i. on now.store.desk.masks.active i) 0 now.store.desk.n (omega arith)) in
      let e : now.store.desk.last + 1 ≡ suc now.history.given = omega (arith, q.last) in
      let f = free_seat q (free_position now.store) a in
      let i = begin-keeps q (free_position now.store) (omega (arith, q.is_n)) f (resting q (free_position now.store) (omega (arith, n_64 q, q.is_n)) f).local
      (ticket-left q u.1.0) in
      record {
        seats = set now.seats (free_position now.store) (some (scan (suc now.history.given) now.history.live [] 0));
        keeps = subst (λ (x : ℕ). Inv (scans_move now (given now.store (free_position now.store)) (begins now.history x) (set now.seats (free_position now.store) (some (scan (suc now.history.given) now.history.live [] 0))))) (sym e) i;
        sits = rw is_ps (begun_sits q (now.store.desk.last + 1) (scan (suc now.history.given) now.history.live [] 0) e);
        mover = free_position now.store;
        others = λ i d. get_or-set_other now.seats (free_position now.store) i (some (scan (suc now.history.given) now.history.live [] 0)) none d;
        fulfils = ap Answer.begun e;
        looked = tt;
      }

  next_steps : (k b : ℕ) (o : List ℕ) → Untrue (own_refusals now.store (Call.next k b o)) → Stepped (Call.next k b o) (walk now.store (position_of now.store k) b 0 o).answer (walk now.store (position_of now.store k) b 0 o).after (walk now.store (position_of now.store k) b 0 o).out
  unfolding own_refusals heard moves Fulfils
  next_steps k b o u =
      let s = scan_at q k u.0 in
      let a = next-keeps q (position_of now.store k) s.0 s.1 b o in
      let W = walk now.store (position_of now.store k) b 0 o in
      let f : scan_of now.history k ≡ some s.0 = ap (λ (x : ℕ). scan_of now.history x) (sym s.2) ∙ scan_of_lem q s.0 (runs_at q (position_of now.store k) s.0 s.1) in
      record {
        seats = a.seats;
        keeps = subst (λ (x : ℕ). Inv (after_next now W.after (on_next W.answer now.history x W.out) a.seats)) s.2 a.keeps;
        sits = ap (map (keep (runs (on_next W.answer now.history k W.out)))) is_ps ∙ subst (λ (x : ℕ). map (keep (runs (on_next W.answer now.history x W.out))) (tickets now.seats) ≡ tickets a.seats) s.2 (next_sits q (position_of now.store k) s.0 s.1 a.keeps refl a.others a.own);
        mover = position_of now.store k;
        others = a.others;
        fulfils = subst (λ (y : Option Scan). Going now.t now.r now.history y b W.out W.answer) (sym f) a.right;
        looked = λ z e. subst (λ (y : Scan). LooksRight (now.table ++ now.shelf) y W.out W.answer) (some-injective s.0 z (sym f ∙ e)) a.looks;
      }

  -- ---- every call

  pub steps : (c : Call) → Within c → own_right c ≡ true → Untrue (own_refusals now.store c) → Stepped c (effect now.store c).answer (effect now.store c).after (effect now.store c).out
  unfolding effect own_refusals heard moves Fulfils
  steps (Call.opening x) wi own u = absurd (false≢true (sym wi.1 ∙ not-false _ u.0))
  steps (Call.change (Change.insert k b)) wi own u = insert_steps k b wi own u
  steps (Call.change (Change.modify k b)) wi own u = modify_steps k b wi own u
  steps (Call.change (Change.delete k)) wi own u = delete_steps k u
  steps Call.begin wi own u = begin_steps u
  steps (Call.next k b o) wi own u = next_steps k b o u
  steps (Call.reading x) wi own u = record { seats = now.seats; keeps = q; sits = is_ps; mover = 0; others = λ i d. refl; fulfils = unrefused now.store (Call.reading x); looked = tt }
