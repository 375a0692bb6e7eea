-- The masks of the calls of document 01 move as in section III-A.
use mathlib.Core.Path.{◌≡◌, refl, sym, ap, ◌∙◌, subst}
use mathlib.Core.Bool.{Bool, true, false, not, ◌&&◌}
use mathlib.Core.Option.{Option, none, some}
use mathlib.Core.List.{List, [], ◌∷◌}
use Prim.Native.Nat.{ℕ, ◌+◌, ◌%◌, ◌<◌}
use native.Mathlib.Omega.{arith}
use lib.Dec.{ltb}
use lib.ListN.{get_or}
use borrow.Author.Tests.{eqb-true, eqb-false}
use Rattle.demands.specs.History.{Scan}
use Rattle.rules.specs.Passed.{All}
use Rattle.demands.specs.Lives.{Opening, table_slots, shelf_entries, bytes_after, past}
use Rattle.demands.specs.Machine.{Within}
use Rattle.demands.specs.Masks.{one_if, none_runs, walks, waits_for, walking, walks_ended, masks_after, MasksMove}
use Rattle.demands.specs.Placement.{lowest, scan_with, places_after}
use Rattle.rules.specs.Calls.{opened}
use Rattle.rules.specs.Masks.{bit, off}
use Rattle.rules.specs.Memory.{Lent, Store, T, read}
use Rattle.rules.specs.Refusals.{Call, Reply, first_of, refusals, effect, replied, called}
use Rattle.stores.proofs.Codec.{read-written}
use Rattle.demands.proofs.page.DemandOne.{accepted, accepted_fine}
use Rattle.demands.proofs.invariant.Invariant.{Inv, busy, seat, resting, slot_of, entry_of}
use Rattle.demands.proofs.invariant.Moment.{Moment}
use Rattle.demands.proofs.page.Lives.{Living, all_live, opening-reads, accepted_is, refused_is, well}
use Rattle.demands.proofs.invariant.Positions.{tickets, sitting_is}
use Rattle.demands.proofs.invariant.Turns.{Turns, effect_turns, still}
use Rattle.rules.proofs.Bits.{bit_low, bit-zero}

module _ {now : Moment} (q : Inv now) (ps : List (Option ℕ)) (is_ps : ps ≡ tickets now.seats) where
  -- the scan at position i
  abbrev at_i : ℕ → Option Scan
  at_i i = scan_with now.history (get_or ps i none)

  seated_is : (i : ℕ) → at_i i ≡ get_or now.seats i none
  seated_is i = sitting_is q ps is_ps i

  active_is : (i : ℕ) → i < 64 → bit now.store.desk.masks.active i ≡ one_if (none_runs (at_i i))
  active_is i hi = go (get_or now.seats i none) refl ∙ ap (λ (o : Option Scan). one_if (none_runs o)) (sym (seated_is i))
    where
      go : (o : Option Scan) → get_or now.seats i none ≡ o → bit now.store.desk.masks.active i ≡ one_if (none_runs (get_or now.seats i none))
      go none e = rw e (resting q i hi e).active
      go (some s) e = rw e (busy q i s e).active

  -- the local active bit is 0 exactly where a scan is in its table walk
  walking_is : (i : ℕ) → i < 64 → off now.store.desk.masks.local i ≡ walks now.t (at_i i)
  walking_is i hi = go (get_or now.seats i none) refl ∙ ap (walks now.t) (sym (seated_is i))
    where
      go : (o : Option Scan) → get_or now.seats i none ≡ o → off now.store.desk.masks.local i ≡ walks now.t (get_or now.seats i none)
      go none e = rw (e, (resting q i hi e).local) refl
      go (some s) e = sym (busy q i s e).local ∙ ap (λ (x : ℕ). ltb x (T now.store)) (seat q i s e).place ∙ ap (ltb s.looks) q.is_t ∙ sym (ap (walks now.t) e)

  local_is : (i : ℕ) → i < 64 → bit now.store.desk.masks.local i ≡ one_if (not (walks now.t (at_i i)))
  local_is i hi = go (off now.store.desk.masks.local i) refl
    where
      go : (b : Bool) → off now.store.desk.masks.local i ≡ b → bit now.store.desk.masks.local i ≡ one_if (not (walks now.t (at_i i)))
      go true e = eqb-true _ _ e ∙ sym (ap (λ (b : Bool). one_if (not b)) (sym (walking_is i hi) ∙ e))
      go false e =
          let z : bit now.store.desk.masks.local i ≡ 1 = omega (arith, bit_low now.store.desk.masks.local i, eqb-false (bit now.store.desk.masks.local i) 0 e) in
          z ∙ sym (ap (λ (b : Bool). one_if (not b)) (sym (walking_is i hi) ∙ e))

-- ---- stable bits

unmoved : (l : Lent) (c : Call) (k : ℕ) → Turns (read l).desk.masks (read (replied (some k) l c).after).desk.masks
unfolding replied
unmoved l c k = still (read l).desk.masks

opened-stable : (o : Opening) (i : ℕ) → bit (masks_after called o []).stable i ≡ 0
unfolding opened
opened-stable o i = ap (λ (S : Store). bit S.desk.masks.stable i) (opening-reads o) ∙ bit-zero i

module _ (o : Opening) where
  lived : (cs : List Call) → All Within cs → Living o.n (table_slots o) (shelf_entries o) (bytes_after called o cs) (past called o cs) (places_after called lowest o cs)
  lived cs ws = all_live o cs ws

  call_turns : (cs : List Call) → All Within cs → (c : Call) → Within c → Turns (masks_after called o cs) (masks_after called o (c ∷ cs))
  unfolding bytes_after
  call_turns cs ws c w = go (first_of (refusals (bytes_after called o cs) c)) refl
    where
      go : (x : Option ℕ) → first_of (refusals (bytes_after called o cs) c) ≡ x → Turns (read (bytes_after called o cs)).desk.masks (read (called (bytes_after called o cs) c).after).desk.masks
      go none e =
          let a = accepted (bytes_after called o cs) c e in
          let v = lived cs ws in
          let f = accepted_fine (bytes_after called o cs) c v.bytes (well c w) a in
          let z : read (called (bytes_after called o cs) c).after ≡ (effect (read (bytes_after called o cs)) c).after = ap (λ (x : Reply). read x.after) (accepted_is (bytes_after called o cs) c e) ∙ read-written (effect (read (bytes_after called o cs)) c).after f.sized in
          subst (λ (X : Store). Turns (read (bytes_after called o cs)).desk.masks X.desk.masks) (sym z) (effect_turns (read (bytes_after called o cs)) v.keeps.fine c w a.others)
      go (some k) e = subst (λ (x : Reply). Turns (read (bytes_after called o cs)).desk.masks (read x.after).desk.masks) (sym (refused_is (bytes_after called o cs) c k e)) (unmoved (bytes_after called o cs) c k)

  stable_is : (cs : List Call) → All Within cs → (i : ℕ) → i < 64 → bit (masks_after called o cs).stable i ≡ walks_ended called o lowest cs i % 2
  unfolding walks_ended
  stable_is [] ws i hi = opened-stable o i
  stable_is (c ∷ cs) ws i hi =
      let v = lived cs ws.1 in
      let u = lived (c ∷ cs) ws in
      let a : off (masks_after called o cs).local i ≡ walking called o lowest cs i = walking_is v.keeps (places_after called lowest o cs).positions v.sits i hi in
      let b : off (masks_after called o (c ∷ cs)).local i ≡ walking called o lowest (c ∷ cs) i = walking_is u.keeps (places_after called lowest o (c ∷ cs)).positions u.sits i hi in
      let ih : bit (masks_after called o cs).stable i ≡ walks_ended called o lowest cs i % 2 = stable_is cs ws.1 i hi in
      call_turns cs ws.1 c ws.0 i hi ∙ rw (a, b, ih) (plus (walks_ended called o lowest cs i) (one_if (walking called o lowest cs i && not (walking called o lowest (c ∷ cs) i))))
    where
      plus : (x y : ℕ) → (x % 2 + y) % 2 ≡ (x + y) % 2
      plus x y = omega arith

pub masks_move : MasksMove called lowest
unfolding MasksMove
masks_move o acc cs ws =
    let v = lived o cs ws in
    let ps = (places_after called lowest o cs).positions in
    record {
      active = λ i hi. active_is v.keeps ps v.sits i hi;
      local = λ i hi. local_is v.keeps ps v.sits i hi;
      stable = stable_is o cs ws;
      status = λ j x e i hi. (slot_of v.keeps j x e).bits i hi
          ∙ ap (λ (b : Bool). one_if (b && not (waits_for (get_or v.seats i none) x))) (walking_is v.keeps ps v.sits i hi)
          ∙ ap (λ (y : Option Scan). one_if (walking called o lowest cs i && not (waits_for y x))) (sym (seated_is v.keeps ps v.sits i));
      remset = λ k x e i hi. (entry_of v.keeps k x e).bits i hi ∙ ap (λ (y : Option Scan). one_if (not (waits_for y x))) (sym (seated_is v.keeps ps v.sits i));
    }
