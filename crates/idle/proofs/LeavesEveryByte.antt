-- A store that leaves every byte, from whatever moment on, does not meet demand 2.
use mathlib.Core.Path.{◌≡◌, refl, sym, ap, subst}
use mathlib.Core.Bool.{Bool, true, false, ◌&&◌}
use mathlib.Core.Option.{Option, none, some}
use mathlib.Core.List.Memᴰ
use mathlib.Core.List.{List, [], ◌∷◌}
use Prim.Native.Nat.{ℕ, ◌≤◌}
use native.Mathlib.Omega.{arith}
use lib.Dec.{leb}
use lib.ListN.{length}
use borrow.Author.Tests.{eq-eqb, ne_eqb, not-true, lt-leb}
use Rattle.demands.specs.DemandTwo.{Fulfils, Answers, Demand2}
use Rattle.demands.specs.Finishing.{Finished}
use Rattle.demands.specs.History.{Version, Scan, History, awaited, needed, numbered, ticketed, is_live, runs, scan_of, leaving, deleted, finishes, heard, tells}
use Rattle.idle.specs.Idle.{bytes_then, past_then, buffer, LeavesEveryByte}
use Rattle.demands.specs.Lives.{Opening, table_slots, shelf_entries, events}
use Rattle.demands.specs.Machine.{Machine, Within}
use Rattle.demands.specs.Reasons.{no_room_for, reasons, reason}
use Rattle.rules.specs.Answers.{Answer, Draw}
use Rattle.rules.specs.Memory.{Lent}
use Rattle.rules.specs.Refusals.{Call, Change, first_of, refused_as}
use Rattle.demands.proofs.machines.AnyMachine.{Bounded, any_told}
use Rattle.idle.proofs.Caught.{ends}
use Rattle.demands.proofs.lists.Lists.{In, in_left, any_in, none_any, those_in}
use Rattle.demands.proofs.history.Past.{Past}
use Rattle.stores.proofs.Sizes.{zero-bytes}
use Rattle.demands.proofs.machines.Small.{body_of, body_bytes}
use Rattle.stores.proofs.Spelling.{to_lengths}

-- ---- no call is answered twice alike by insert, by delete or at the end of a scan

module _ (N T R : ℕ) (h : History) where
  -- a call, and the same again
  pub record Twice (c : Call) (a : Answer) (out : List ℕ) : Type 0 where
    pub first : Answers T R h (reason N T R h c) c a out
    pub second : Answers T R (heard h c a out) (reason N T R (heard h c a out) c) c a out

  refused-done : (k : ℕ) (a : Answer) → a ≡ Answer.done → a ≡ Answer.refused k → ⊥
  refused-done k a e f = let z : ◌≡◌ {A = ℕ} 0 1 = cc in omega arith

  abbrev insertion : Call
  insertion = Call.change (Change.insert 1 (body_of 1))

  insert_once : (a : Answer) (out : List ℕ) → Twice insertion a out → is_live h 1 ≡ false → leb T (length h.live) ≡ false → ⊥
  unfolding reasons first_of Fulfils body_of heard refused_as
  insert_once a out t absent room =
      let r : reason N T R h insertion ≡ none = rw (absent, room) refl in
      let e : a ≡ Answer.done = subst (λ (x : Option ℕ). Answers T R h x insertion a out) r t.first in
      let f : a ≡ Answer.refused 5 = subst (λ (x : Answer). Answers T R (heard h insertion x out) (reason N T R (heard h insertion x out) insertion) insertion a out) e t.second in
      refused-done 5 a e f

  gone : (k : ℕ) → is_live (deleted h k) k ≡ false
  gone k = none_any (numbered k) (deleted h k).live (λ v i. not-true _ (those_in _ h.live v i).1)

  delete_once : (k : ℕ) (a : Answer) (out : List ℕ) → Twice (Call.change (Change.delete k)) a out → 1 ≤ k → is_live h k ≡ true → no_room_for N T R h k ≡ false → ⊥
  unfolding reasons first_of Fulfils heard refused_as
  delete_once k a out t low is room =
      let r : reason N T R h (Call.change (Change.delete k)) ≡ none = rw (ne_eqb k 0 (λ z. omega arith), is, room) refl in
      let e : a ≡ Answer.done = subst (λ (x : Option ℕ). Answers T R h x (Call.change (Change.delete k)) a out) r t.first in
      let g : reason N T R (deleted h k) (Call.change (Change.delete k)) ≡ some 6 = rw (ne_eqb k 0 (λ z. omega arith), gone k) refl in
      let f : a ≡ Answer.refused 6 = subst (λ (x : Option ℕ). Answers T R (deleted h k) x (Call.change (Change.delete k)) a out) g (subst (λ (x : Answer). Answers T R (heard h (Call.change (Change.delete k)) x out) (reason N T R (heard h (Call.change (Change.delete k)) x out) (Call.change (Change.delete k))) (Call.change (Change.delete k)) a out) e t.second) in
      refused-done 6 a e f

  abbrev ask : ℕ → Call
  ask t = Call.next t 1 buffer

  over : (t : ℕ) → runs (finishes h t) t ≡ false
  over t = none_any (ticketed t) (finishes h t).running (λ s i. not-true _ (those_in _ h.running s i).1)

  finish_once : (t : ℕ) (a : Answer) (out : List ℕ) → Twice (ask t) a out → Finished t (ask t) a → ⊥
  unfolding reasons first_of heard refused_as buffer
  finish_once t a out w f =
      let e : a ≡ (Answer.drew (Draw.finished f.1.0 f.1.1 f.1.2)) = f.1.3 in
      let g : reason N T R (finishes h t) (ask t) ≡ some 10 = rw (over t) refl in
      let r : a ≡ Answer.refused 10 = subst (λ (x : Option ℕ). Answers T R (finishes h t) x (ask t) a out) g (subst (λ (x : Answer). Answers T R (heard h (ask t) x out) (reason N T R (heard h (ask t) x out) (ask t)) (ask t) a out) e w.second) in
      let z : ◌≡◌ {A = ℕ} 0 1 = cc in omega arith

-- ---- but a store that leaves every byte answers each call alike ever after

module _ (M : Machine) (p : LeavesEveryByte M) (d : Demand2 M) where
  abbrev o : Opening
  o = p.moment.opening

  abbrev l : Lent
  l = bytes_then M p.moment

  abbrev h : History
  h = past_then M p.moment

  told : Past h × Bounded o.n (table_slots o) (shelf_entries o) h
  told = any_told M d o p.moment.calls p.moment.within

  twice : (c : Call) → Within c → Twice o.n (table_slots o) (shelf_entries o) h c (M l c).answer (M l c).out
  unfolding events tells
  twice c w =
      record {
        first = d.answers o p.moment.calls p.moment.within c w;
        second = subst (λ (x : Lent). Answers (table_slots o) (shelf_entries o) (heard h c (M l c).answer (M l c).out) (reason o.n (table_slots o) (shelf_entries o) (heard h c (M l c).answer (M l c).out) c) c (M x c).answer (M x c).out)
            (p.leaves (c ∷ []) (w, p.moment.within)) (d.answers o (c ∷ p.moment.calls) (w, p.moment.within) c w);
      }

  -- a scan runs: asked again and again it finishes, and is then refused
  scan_runs : (s : Scan) (ss : List Scan) → h.running ≡ s ∷ ss → ⊥
  unfolding buffer
  scan_runs s ss e =
      let i : In s h.running = subst (In s) (sym e) (Memᴰ.head refl) in
      let passable : Within (Call.next s.ticket 1 buffer) = (omega (arith, (told.0.scans s i).high, told.1.given), omega arith, zero-bytes 56) in
      let is : scan_of h s.ticket ≡ some s = rw (e, eq-eqb s.ticket s.ticket refl) refl in
      let w = ends M d p.moment s.ticket s is passable in
      let f = subst (λ (x : Lent). Finished s.ticket (Call.next s.ticket 1 buffer) (M x (Call.next s.ticket 1 buffer)).answer) (p.leaves w.calls w.within) w.finished in
      finish_once o.n (table_slots o) (shelf_entries o) h s.ticket _ _ (twice (Call.next s.ticket 1 buffer) passable) f

  -- none runs: a record can be inserted, or deleted, and then no more
  none_runs : h.running ≡ [] → (vs : List Version) → h.live ≡ vs → ⊥
  unfolding awaited
  none_runs e [] q =
      insert_once o.n (table_slots o) (shelf_entries o) h _ _ (twice (Call.change (Change.insert 1 (body_of 1))) (omega arith, body_bytes 1 (omega arith))) (rw q refl)
      (rw q (lt-leb (table_slots o) 0 (to_lengths o.old o.lengths).slots))
  none_runs e (v ∷ vs) q =
      let i : In v h.live = subst (In v) (sym q) (Memᴰ.head refl) in
      let j = in_left v h.live h.left i in
      delete_once o.n (table_slots o) (shelf_entries o) h v.number _ _ (twice (Call.change (Change.delete v.number)) (told.0.small v j)) (told.1.numbers v j) (any_in (numbered v.number) h.live v i (eq-eqb v.number v.number refl)) room
    where
      unawaited : (v : Version) → awaited h v ≡ false
      unawaited v = rw e refl

      room : no_room_for o.n (table_slots o) (shelf_entries o) h v.number ≡ false
      room = ap (λ (b : Bool). b && leb (shelf_entries o) (length (needed h))) (none_any (awaited h) (leaving v.number h.live) (λ u k. unawaited u))

  pub leaves_every_byte_caught : ⊥
  leaves_every_byte_caught = go h.running refl
    where
      go : (ss : List Scan) → h.running ≡ ss → ⊥
      go [] e = none_runs e h.live refl
      go (s ∷ ss) e = scan_runs s ss e
