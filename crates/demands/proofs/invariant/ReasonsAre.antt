-- Between calls document 01's tests on the store are the reasons that the calls and answers tell.
use mathlib.Core.Path.{◌≡◌, refl, sym, ap, ◌∙◌, subst}
use mathlib.Core.Bool.{Bool, true, false, not, or-false, not-not}
use mathlib.Core.Option.{Option, none, some}
use mathlib.Core.List.{[], ◌∷◌}
use Prim.Native.Nat.{ℕ, ◌≤◌, ◌<◌}
use native.Mathlib.Omega.{arith}
use lib.Dec.{eqb, ltb, leb}
use lib.ListN.{length, get_or}
use borrow.Author.Tests.{ltb-true, ltb-false, eqb-true, eq-eqb, ne_eqb, lt-ltb, le-leb, lt-leb, not-false}
use Rattle.demands.specs.History.{Version, Scan, awaited, needed, numbered, ticketed, leaving, is_live, runs, scan_of}
use Rattle.demands.specs.Lists.{any, standing}
use Rattle.demands.specs.Reasons.{no_room_for, reasons, reason}
use Rattle.rules.specs.Calls.{bearing, empty_slot, shelf_entry, free_position, card_of, position_of, unawaited}
use Rattle.rules.specs.Masks.{bit, on}
use Rattle.rules.specs.Memory.{T, R}
use Rattle.rules.specs.Refusals.{Call, Change, Reading, own_right, first_of, there, no_room, no_scan, own_refusals}
use Rattle.rules.proofs.First.{first_found, first-lowest}
use Rattle.stores.proofs.FirstOf.{same_first, skip_first}
use Rattle.demands.proofs.lists.Apart.{apart_eq}
use Rattle.demands.proofs.invariant.BeginKeeps.{free_seat}
use Rattle.demands.proofs.invariant.ChangesKeep.{leaves}
use Rattle.demands.proofs.invariant.Invariant.{SeatOK, Inv, n_64, table_numbers, shelf_numbers, gt_length, gs_length, full_is, bearer, bears, runs_at, at_runs, position, seat, live_at, at_live, unawaited_is, resting, ticket-left}
use Rattle.demands.proofs.invariant.Moment.{Moment}
use Rattle.demands.proofs.lists.Lists.{In, clash, any_in, in_any, any_perm, perm_length, first_only}
use Rattle.demands.proofs.history.Past.{ticket_of}
use Rattle.demands.proofs.lists.Places.{At, room_less, full_all}
use Rattle.stores.proofs.Stays.{some_number, at_position, ticket-some, ticket-there}

module _ {now : Moment} (q : Inv now) where
  -- ---- records

  pub version_of : (k : ℕ) → 1 ≤ k → there now.store k ≡ true → (v : Version) × At now.table (bearing now.store.table k) v × (v.number ≡ k)
  version_of k low e = bearer now.store.table now.table (gt_length q) (table_numbers q) k low (ltb-true _ _ e)

  pub there_is : (k : ℕ) → 1 ≤ k → there now.store k ≡ is_live now.history k
  there_is k low = go (there now.store k) refl (is_live now.history k) refl
    where
      go : (a : Bool) → there now.store k ≡ a → (b : Bool) → is_live now.history k ≡ b → there now.store k ≡ is_live now.history k
      go true x true y = x ∙ sym y
      go true x false y =
          let w = version_of k low x in
          clash (is_live now.history k) (any_in (numbered k) now.history.live w.0 (at_live q (bearing now.store.table k) w.0 w.1) (eq-eqb _ _ w.2)) y
      go false x true y =
          let w = in_any (numbered k) now.history.live y in
          let z = live_at q w.0 w.1 in
          let e : w.0.number ≡ k = eqb-true _ _ w.2 in
          clash (there now.store k) (lt-ltb _ _ (subst (λ (x : ℕ). bearing now.store.table x < length now.store.table) e (bears now.store.table now.table (gt_length q) (table_numbers q) z.0 w.0 z.1))) x
      go false x false y = x ∙ sym y

  table_full_is : not (ltb (empty_slot now.store.table) (T now.store)) ≡ leb now.t (length now.history.live)
  table_full_is = full_is now.store.table now.table (gt_length q) (table_numbers q) now.history.live q.tabled ∙ ap (λ (x : ℕ). leb x (length now.history.live)) q.is_t

  shelf_full_is : not (ltb (shelf_entry now.store) (R now.store)) ≡ leb now.r (length (needed now.history))
  shelf_full_is = full_is now.store.shelf now.shelf (gs_length q) (shelf_numbers q) (needed now.history) q.shelved ∙ ap (λ (x : ℕ). leb x (length (needed now.history))) q.is_r

  pub no_room_is : (k : ℕ) → 1 ≤ k → there now.store k ≡ true → no_room now.store k ≡ no_room_for now.n now.t now.r now.history k
  no_room_is k low e =
      let w = version_of k low e in
      let a : not (unawaited now.store (bearing now.store.table k)) ≡ awaited now.history w.0 = ap not (unawaited_is q (bearing now.store.table k) w.0 w.1) ∙ not-not (awaited now.history w.0) in
      let b : any (awaited now.history) (leaving k now.history.live) ≡ awaited now.history w.0 =
      sym (ap (λ (x : ℕ). any (awaited now.history) (leaving x now.history.live)) w.2) ∙ sym (any_perm (awaited now.history) (w.0 ∷ []) (leaving w.0.number now.history.live) (leaves q (bearing now.store.table k) w.0 w.1))
      ∙ or-false (awaited now.history w.0) in
      rw (a, b, shelf_full_is) refl

  -- ---- positions

  positions_full_is : not (ltb (free_position now.store) now.store.desk.n) ≡ leb now.n (length now.history.running)
  positions_full_is = go (ltb (free_position now.store) now.store.desk.n) refl
    where
      m : length (standing now.seats) ≡ length now.history.running
      m = perm_length (standing now.seats) now.history.running q.seated

      go : (b : Bool) → ltb (free_position now.store) now.store.desk.n ≡ b → not (ltb (free_position now.store) now.store.desk.n) ≡ leb now.n (length now.history.running)
      go true e =
          let k : free_position now.store < now.store.desk.n = ltb-true _ _ e in
          let a : bit now.store.desk.masks.active (free_position now.store) ≡ 1 = eqb-true _ _ (first_found (λ i. on now.store.desk.masks.active i) 0 now.store.desk.n (omega arith)) in
          let l : length (standing now.seats) < length now.seats = room_less now.seats (free_position now.store) (free_seat q (free_position now.store) a) (omega (arith, q.seats, q.is_n)) in
          rw (e, lt-leb now.n (length now.history.running) (omega (arith, m, q.seats))) refl
      go false e =
          let k : now.store.desk.n ≤ free_position now.store = ltb-false _ _ e in
          let l : length (standing now.seats) ≡ length now.seats = full_all now.seats (λ j w z. taken j (omega (arith, q.seats, q.is_n)) z k) in
          rw (e, le-leb now.n (length now.history.running) (omega (arith, m, q.seats))) refl
        where
          taken : (j : ℕ) → j < now.store.desk.n → get_or now.seats j none ≡ none → now.store.desk.n ≤ free_position now.store → ⊥
          taken j w z k =
              let a : bit now.store.desk.masks.active j ≡ 1 = (resting q j (omega (arith, n_64 q, q.is_n)) z).active in
              let f : free_position now.store ≤ j = first-lowest (λ i. on now.store.desk.masks.active i) 0 now.store.desk.n j (omega arith) (eq-eqb _ _ a) in
              omega arith

  tickets_spent_is : eqb now.store.desk.last 4294967295 ≡ leb 4294967295 now.history.given
  tickets_spent_is = go (eqb now.store.desk.last 4294967295) refl
    where
      go : (b : Bool) → eqb now.store.desk.last 4294967295 ≡ b → eqb now.store.desk.last 4294967295 ≡ leb 4294967295 now.history.given
      go true e = let z : now.store.desk.last ≡ 4294967295 = eqb-true _ _ e in e ∙ sym (le-leb 4294967295 now.history.given (omega (arith, q.last)))
      go false e = e ∙ sym (lt-leb 4294967295 now.history.given (ticket-left q e))

  -- ---- tickets

  pub scan_at : (k : ℕ) → no_scan now.store k ≡ false → (s : Scan) × At now.seats (position_of now.store k) s × (s.ticket ≡ k)
  scan_at k e = go (get_or now.seats (position_of now.store k) none) refl
    where
      go : (o : Option Scan) → get_or now.seats (position_of now.store k) none ≡ o → (s : Scan) × At now.seats (position_of now.store k) s × (s.ticket ≡ k)
      go none d = let z : (card_of now.store (position_of now.store k)).ticket.0 ≡ 0 = subst (SeatOK (card_of now.store (position_of now.store k))) d (q.cards (position_of now.store k) (at_position now.store k e)) in absurd (omega (arith, ticket-there now.store k e, ticket-some now.store k e))
      go (some s) d = (s, d, sym (seat q (position_of now.store k) s d).ticket ∙ ticket-there now.store k e)

  pub no_scan_is : (k : ℕ) → no_scan now.store k ≡ not (runs now.history k)
  no_scan_is k = go (no_scan now.store k) refl (runs now.history k) refl
    where
      found : (s : Scan) → In s now.history.running → s.ticket ≡ k → no_scan now.store k ≡ false
      found s i z =
          let w = at_runs q s i in
          let c : (card_of now.store w.0).ticket.0 ≡ s.ticket = (seat q w.0 s w.1).ticket in
          let p : w.0 < 64 = position q w.0 s w.1 in
          let f : position_of now.store k ≤ w.0 = first-lowest (λ i. eqb (card_of now.store i).ticket.0 k) 0 64 w.0 (omega arith) (eq-eqb _ _ (c ∙ z)) in
          rw (ne_eqb k 0 (λ y. omega (arith, (q.past.scans s i).low)), lt-ltb (position_of now.store k) 64 (omega arith)) refl

      go : (a : Bool) → no_scan now.store k ≡ a → (b : Bool) → runs now.history k ≡ b → no_scan now.store k ≡ not (runs now.history k)
      go true x true y = let w = in_any (ticketed k) now.history.running y in clash (no_scan now.store k) x (found w.0 w.1 (eqb-true _ _ w.2))
      go true x false y = rw (x, y) refl
      go false x true y = rw (x, y) refl
      go false x false y = let w = scan_at k x in clash (runs now.history k) (any_in (ticketed k) now.history.running w.0 (runs_at q (position_of now.store k) w.0 w.1) (eq-eqb _ _ w.2)) y

  pub scan_of_lem : (s : Scan) → In s now.history.running → scan_of now.history s.ticket ≡ some s
  scan_of_lem s i = first_only (ticketed s.ticket) now.history.running s i (eq-eqb s.ticket s.ticket refl) (λ u j e. apart_eq ticket_of now.history.running q.past.tickets u s j i (eqb-true _ _ e))

  -- ---- call by call

  pub reasons_are : (c : Call) → first_of ((not (own_right c), 1) ∷ own_refusals now.store c) ≡ reason now.n now.t now.r now.history c
  unfolding reasons own_refusals own_right
  reasons_are (Call.opening x) = skip_first false 1 _ refl
  reasons_are (Call.change (Change.insert k b)) =
      same_first _ _ 1 _ _ refl (λ _. same_first _ _ 3 _ _ refl (λ z. same_first _ _ 4 _ _ refl (λ _. same_first _ _ 5 _ _ (there_is k (some_number k z)) (λ _. same_first _ _ 7 _ _ table_full_is (λ _. refl)))))
  reasons_are (Call.change (Change.modify k b)) =
      same_first _ _ 1 _ _ refl (λ _. same_first _ _ 3 _ _ refl (λ z. same_first _ _ 4 _ _ refl (λ _. same_first _ _ 6 _ _ (ap not (there_is k (some_number k z)))
      (λ x. same_first _ _ 8 _ _ (no_room_is k (some_number k z) (there_is k (some_number k z) ∙ not-false _ x)) (λ _. refl)))))
  reasons_are (Call.change (Change.delete k)) =
      skip_first false 1 _ refl ∙ same_first _ _ 3 _ _ refl (λ z. same_first _ _ 6 _ _ (ap not (there_is k (some_number k z))) (λ x. same_first _ _ 8 _ _ (no_room_is k (some_number k z) (there_is k (some_number k z) ∙ not-false _ x)) (λ _. refl)))
  reasons_are Call.begin = skip_first false 1 _ refl ∙ same_first _ _ 9 _ _ positions_full_is (λ _. same_first _ _ 11 _ _ tickets_spent_is (λ _. refl))
  reasons_are (Call.next k b o) = same_first _ _ 1 _ _ refl (λ _. same_first _ _ 10 _ _ (no_scan_is k) (λ _. refl))
  reasons_are (Call.reading (Reading.peek k)) = skip_first false 1 _ refl ∙ same_first _ _ 10 _ _ (no_scan_is k) (λ _. refl)
  reasons_are (Call.reading Reading.tally) = skip_first false 1 _ refl
  reasons_are (Call.reading (Reading.owed k)) = skip_first false 1 _ refl ∙ same_first _ _ 10 _ _ (no_scan_is k) (λ _. refl)
