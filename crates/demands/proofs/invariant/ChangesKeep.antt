-- Insert, modify and delete keep the invariant.
use mathlib.Core.Path.{◌≡◌, refl, sym, ap, ◌∙◌, subst}
use mathlib.Core.Bool.{Bool, true, false, not, ◌&&◌, cond, not-not}
use mathlib.Core.Option.{Option, none, some}
use mathlib.Core.List.{List, [], ◌∷◌, ◌++◌}
use Prim.Native.Nat.{ℕ, ◌≤◌, ◌<◌}
use native.Mathlib.Omega.{arith}
use lib.Bits.{bit_xor}
use lib.ListN.{length, get_or, set, length-set}
use lib.Seq.{get_or-set_same, set-set}
use borrow.Author.Tests.{eq-eqb, ne_eqb, not-true, not-false}
use Rattle.demands.specs.History.{Version, version, Scan, History, awaited, needed, numbered, is_live, remain, leaving, inserted, modified, deleted}
use Rattle.rules.specs.Passed.{All, Byte}
use Rattle.demands.specs.Lists.{those, standing, Permutation}
use Rattle.demands.specs.Masks.{one_if, waits_for}
use Rattle.rules.specs.Calls.{slot_in, empty_slot, shelf_entry, present, replaced, unawaited, changed_by, changed}
use Rattle.rules.specs.Masks.{bit, off, new_status}
use Rattle.rules.specs.Memory.{slot, free, idle, Desk, Store, T, R}
use Rattle.demands.proofs.lists.Apart.{apart_perm}
use Rattle.stores.proofs.ChangesFine.{Writes, inserted_fine, changed_fine}
use Rattle.demands.proofs.invariant.Invariant.{SeatOK, Inv, table_numbers, shelf_numbers, gt_length, gs_length, empty_place, runs_at, not-awaited, slot_of, unawaited_is, m_bits}
use Rattle.demands.proofs.lists.Lists.{back, perm_those, perm_before}
use Rattle.demands.proofs.invariant.Marks.{Is, OK, Marked, set_both, new_bits}
use Rattle.demands.proofs.invariant.Moment.{Moment, versions_move, aw, table_of, shelf_of}
use Rattle.demands.proofs.history.Past.{Past, number_of, unmade, inserted-past, modified-past, deleted-past}
use Rattle.demands.proofs.lists.Places.{At, at_below, standing-taken, one_place, those_but, those-one}
use Rattle.stores.proofs.Stays.{changed_kept}

-- a change leaves the desk as it is
pub desk-same : (x : Bool) (S : Store) (j : ℕ) (b : Option (List ℕ)) → (changed_by x S j b).desk ≡ S.desk
unfolding changed_by
desk-same true S j b = refl
desk-same false S j b = refl

module _ {now : Moment} (q : Inv now) where
  -- nobody awaits a version that is being made
  nobody : (v : Version) → v.change ≡ now.history.changes → (i : ℕ) → aw now i v ≡ false
  nobody v e i = go (get_or now.seats i none) refl
    where
      go : (o : Option Scan) → get_or now.seats i none ≡ o → aw now i v ≡ false
      go none d = ap (λ (o : Option Scan). waits_for o v) d
      go (some s) d = ap (λ (o : Option Scan). waits_for o v) d ∙ unmade now.history q.past s (runs_at q i s d) v (omega arith)

  -- a slot with the new status, or one that nobody awaited, holds a version that is being made
  new_slot : (j x : ℕ) (v : Version) → 1 ≤ v.number → v.change ≡ now.history.changes
      → ((i : ℕ) → i < 64 → bit (bit_xor now.store.desk.masks.stable x) i ≡ one_if (off now.store.desk.masks.local i && not (aw now i v)))
      → Is now (table_of now) j (slot v.number v.body x) v
  new_slot j x v k e b = record { number = refl; some = k; body = refl; bits = b; passed = λ i hi g. nobody v e i }

  new_status_lem : (v : Version) → v.change ≡ now.history.changes → (i : ℕ) → i < 64 → bit (bit_xor now.store.desk.masks.stable (new_status now.store.desk.masks)) i ≡ one_if (off now.store.desk.masks.local i && not (aw now i v))
  new_status_lem v e i hi =
      new_bits now.store.desk.masks q.fine.sized.desk.stable q.fine.sized.desk.local i hi ∙ sym (ap (λ (b : Bool). one_if (off now.store.desk.masks.local i && not b)) (nobody v e i))

  -- ---- insert

  pub insert-keeps : (k : ℕ) (b : List ℕ) → 1 ≤ k → k < 4294967296 → length b ≡ 52 → All Byte b → is_live now.history k ≡ false → empty_slot now.store.table < T now.store
      → Inv (versions_move now (Rattle.rules.specs.Calls.inserted now.store k b) (inserted now.history k b) (set now.table (empty_slot now.store.table) (some (version k b now.history.changes))) now.shelf)
  unfolding Rattle.rules.specs.Calls.inserted awaited
  insert-keeps k b low small len bytes absent room =
      let e : ℕ = empty_slot now.store.table in
      let v : Version = version k b now.history.changes in
      let z : get_or now.table e none ≡ none = empty_place now.store.table now.table (gt_length q) (table_numbers q) room in
      let w : e < length now.table = omega (arith, gt_length q) in
      record {
        fine = inserted_fine now.store q.fine k b small len bytes;
        past = inserted-past now.history q.past k b small absent;
        is_n = q.is_n;
        is_t = length-set now.store.table e _ ∙ q.is_t;
        is_r = q.is_r;
        last = q.last;
        slots = length-set now.table e (some v) ∙ q.slots;
        entries = q.entries;
        seats = q.seats;
        seated = q.seated;
        cards = q.cards;
        table_marks = set_both (OK now (table_of now)) (OK now (table_of now)) free none now.store.table now.table e room w
            (slot k b (new_status now.store.desk.masks)) (some v) (new_slot e (new_status now.store.desk.masks) v low refl (new_status_lem v refl)) (λ i d x. x) q.table_marks;
        shelf_marks = q.shelf_marks;
        tabled = Permutation.both (standing-taken now.table e v z w) (Permutation.next q.tabled);
        shelved = q.shelved;
      }

  -- ---- modify and delete

  module _ (j : ℕ) (v : Version) (here : At now.table j v) where
    hj : j < length now.table
    hj = at_below now.table j v here

    hjt : j < length now.store.table
    hjt = omega (arith, hj, gt_length q)

    alone : (i : ℕ) (u : Version) → (i ≡ j → ⊥) → At now.table i u → u.number ≡ v.number → ⊥
    alone i u d e z = d (one_place number_of now.table (apart_perm number_of now.history.live (standing now.table) (back q.tabled) q.past.numbers) i j u v e here z)

    -- what remains stands where it stood
    pub remains : Permutation (standing (set now.table j none)) (remain v.number now.history.live)
    remains =
        subst (λ (l : List Version). Permutation l (remain v.number now.history.live))
        (those_but (λ u. not (numbered v.number u)) now.table j v here (rw (eq-eqb v.number v.number refl) refl) (λ i u d e. rw (ne_eqb u.number v.number (alone i u d e)) refl))
        (perm_those (λ u. not (numbered v.number u)) (standing now.table) now.history.live q.tabled)

    -- the version at j leaves, and no other
    pub leaves : Permutation (v ∷ []) (leaving v.number now.history.live)
    leaves =
        subst (λ (l : List Version). Permutation l (leaving v.number now.history.live))
        (those-one (numbered v.number) now.table j v here (eq-eqb v.number v.number refl) (λ i u d e. ne_eqb u.number v.number (alone i u d e)))
        (perm_those (numbered v.number) (standing now.table) now.history.live q.tabled)

    -- where it goes
    abbrev pub shelves : Bool → List (Option Version)
    shelves b = cond b (set now.shelf (shelf_entry now.store) (some v)) now.shelf

    module _ (room : awaited now.history v ≡ true → shelf_entry now.store < R now.store) where
      shelves_length : (b : Bool) → length (shelves b) ≡ now.r
      shelves_length true = length-set now.shelf (shelf_entry now.store) (some v) ∙ q.entries
      shelves_length false = q.entries

      -- the versions that are needed once it has left
      shelves_needed : (g : History) → g.running ≡ now.history.running → g.left ≡ leaving v.number now.history.live ++ now.history.left → Permutation (standing (shelves (awaited now.history v))) (needed g)
      unfolding awaited
      shelves_needed g er el =
          rw (er, el) (Permutation.both (go (awaited now.history v) refl) (perm_those (awaited now.history) (v ∷ now.history.left) (leaving v.number now.history.live ++ now.history.left) (perm_before (v ∷ []) (leaving v.number now.history.live) now.history.left leaves)))
        where
          go : (b : Bool) → awaited now.history v ≡ b → Permutation (standing (shelves b)) (those (awaited now.history) (v ∷ now.history.left))
          go true e =
              let w : shelf_entry now.store < R now.store = room e in
              rw e (Permutation.both (standing-taken now.shelf (shelf_entry now.store) v (empty_place now.store.shelf now.shelf (gs_length q) (shelf_numbers q) w) (omega (arith, gs_length q))) (Permutation.next q.shelved))
          go false e = rw e q.shelved

      -- the slot after the change: freed, or a version that is being made
      abbrev New : Option (List ℕ) → Option Version → Type 0
      New none none = Unit
      New none (some u) = ⊥
      New (some b) none = ⊥
      New (some b) (some u) = u ≡ version v.number b now.history.changes

      new_slot_ok : (x : ℕ) (b : Option (List ℕ)) (u : Option Version) → New b u
          → ((w : Version) → w.change ≡ now.history.changes → (i : ℕ) → i < 64 → bit (bit_xor now.store.desk.masks.stable x) i ≡ one_if (off now.store.desk.masks.local i && not (aw now i w)))
          → OK now (table_of now) j (replaced (slot_in now.store.table j) b x) u
      new_slot_ok x none none w f = refl
      new_slot_ok x none (some u) w f = absurd w
      new_slot_ok x (some b) none w f = absurd w
      new_slot_ok x (some b) (some u) w f =
          let s = slot_of q j v here in
          rw (w, s.number) (new_slot j x (version v.number b now.history.changes) (rw s.number at s.some) refl (f (version v.number b now.history.changes) refl))

      -- the moment after it
      abbrev n : Option (List ℕ) → Option Version → History → Bool → Moment
      n b u g x = versions_move now (changed_by x now.store j b) g (set now.table j u) (shelves (not x))

      changed_marks : (b : Option (List ℕ)) (u : Option Version) (g : History) → New b u → (x : Bool) → unawaited now.store j ≡ x → Marked (n b u g x) (table_of (n b u g x)) × Marked (n b u g x) (shelf_of (n b u g x))
      unfolding changed_by
      changed_marks b u g w true e =
          let a : awaited now.history v ≡ false = not-true (awaited now.history v) (sym (unawaited_is q j v here) ∙ e) in (
            set_both (OK now (table_of now)) (OK now (table_of now)) free none now.store.table now.table j hjt hj (replaced (slot_in now.store.table j) b (slot_in now.store.table j).mask) u
                (new_slot_ok (slot_in now.store.table j).mask b u w
                (λ y d i hi. (slot_of q j v here).bits i hi ∙ ap (λ (z : Bool). one_if (off now.store.desk.masks.local i && not z)) (not-awaited q v a i ∙ sym (nobody y d i))))
                (λ i d z. z) q.table_marks,
            q.shelf_marks,
          )
      changed_marks b u g w false e =
          let a : awaited now.history v ≡ true = not-false (awaited now.history v) (sym (unawaited_is q j v here) ∙ e) in
          let k : shelf_entry now.store < R now.store = room a in
          let s = slot_of q j v here in (
            set_both (OK now (table_of now)) (OK now (table_of now)) free none now.store.table now.table j hjt hj (replaced (slot_in now.store.table j) b (new_status now.store.desk.masks)) u
                (new_slot_ok (new_status now.store.desk.masks) b u w new_status_lem) (λ i d z. z) q.table_marks,
            set_both (OK now (shelf_of now)) (OK now (shelf_of now)) free none now.store.shelf now.shelf (shelf_entry now.store) k (omega (arith, gs_length q)) (present now.store j) (some v)
                (record { number = s.number; some = s.some; body = s.body; bits = m_bits q j v here; passed = λ i hi g. s.passed i hi (omega (arith, hj, q.slots)) }) (λ i d z. z) q.shelf_marks,
          )

      changed-keeps : (b : Option (List ℕ)) (u : Option Version) → Writes b → New b u → (g : History) → Past g → g.given ≡ now.history.given → g.running ≡ now.history.running → g.left ≡ leaving v.number now.history.live ++ now.history.left
          → Permutation (standing (set now.table j u)) g.live → Inv (versions_move now (changed now.store j b) g (set now.table j u) (shelves (awaited now.history v)))
      changed-keeps b u wr w g pg eg er el tab =
          let d = desk-same (unawaited now.store j) now.store j b in
          let k = changed_kept (unawaited now.store j) now.store j b in
          let m = changed_marks b u g w (unawaited now.store j) refl in
          let y : not (unawaited now.store j) ≡ awaited now.history v = ap not (unawaited_is q j v here) ∙ not-not (awaited now.history v) in
          subst (λ (x : Bool). Inv (versions_move now (changed now.store j b) g (set now.table j u) (shelves x))) y
          (record {
            fine = changed_fine (unawaited now.store j) now.store q.fine j b wr;
            past = pg;
            is_n = ap (λ (x : Desk). x.n) d ∙ q.is_n;
            is_t = k.slots ∙ q.is_t;
            is_r = k.entries ∙ q.is_r;
            last = ap (λ (x : Desk). x.last) d ∙ q.last ∙ sym eg;
            slots = length-set now.table j u ∙ q.slots;
            entries = shelves_length (not (unawaited now.store j));
            seats = q.seats;
            seated = rw er q.seated;
            cards = λ i hi. subst (λ (x : Desk). SeatOK (get_or x.cards i idle) (get_or now.seats i none)) (sym d) (q.cards i hi);
            table_marks = m.0;
            shelf_marks = m.1;
            tabled = tab;
            shelved = subst (λ (x : Bool). Permutation (standing (shelves x)) (needed g)) (sym y) (shelves_needed g er el);
          })

      pub modify-keeps : (b : List ℕ) → v.number < 4294967296 → length b ≡ 52 → All Byte b
          → Inv (versions_move now (changed now.store j (some b)) (modified now.history v.number b) (set now.table j (some (version v.number b now.history.changes))) (shelves (awaited now.history v)))
      modify-keeps b small len bytes =
          let u : Version = version v.number b now.history.changes in
          changed-keeps (some b) (some u) (len, bytes) refl (modified now.history v.number b) (modified-past now.history q.past v.number b small) refl refl refl
          (Permutation.both (subst (λ (l : List (Option Version)). Permutation (standing l) (u ∷ standing (set now.table j none))) (set-set now.table j none (some u))
          (standing-taken (set now.table j none) j u (get_or-set_same now.table j none none hj) (omega (arith, hj, length-set now.table j none)))) (Permutation.next remains))

      pub delete-keeps : Inv (versions_move now (changed now.store j none) (deleted now.history v.number) (set now.table j none) (shelves (awaited now.history v)))
      delete-keeps = changed-keeps none none tt tt (deleted now.history v.number) (deleted-past now.history q.past v.number) refl refl refl remains
