-- The calls of document 01 look as the rule of next has it; peek, tally and owed answer accordingly.
use mathlib.Core.Path.{◌≡◌, refl, sym, ap, ◌∙◌, subst}
use mathlib.Core.Bool.{false}
use mathlib.Core.Option.{none, some}
use mathlib.Core.List.{List, [], ◌++◌}
use mathlib.Core.Logic.{inl, inr}
use Prim.Native.Nat.{ℕ, ◌+◌, ◌-◌, ◌<◌}
use native.Mathlib.Omega.{arith}
use lib.ListN.{length}
use Rattle.demands.specs.DemandTwo.{Goes}
use Rattle.demands.specs.History.{Scan, needed, scan_of}
use Rattle.rules.specs.Passed.{All}
use Rattle.demands.specs.Lives.{Opening, table_slots, shelf_entries, bytes_after, past}
use Rattle.demands.specs.Machine.{Within}
use Rattle.demands.specs.Placement.{lowest, places_after, row, LooksRight}
use Rattle.demands.specs.Reasons.{reason, reasons}
use Rattle.demands.specs.RuleOfNext.{Peeks, still_to_come, RuleOfNext}
use Rattle.rules.specs.Answers.{Answer, Draw, Shown, number}
use Rattle.rules.specs.Calls.{position_of}
use Rattle.rules.specs.Memory.{T, R, read}
use Rattle.rules.specs.Next.{walk, peeked}
use Rattle.rules.specs.Refusals.{Call, Reading, Reply, first_of, no_scan, own_refusals, refusals, effect, out_of, called}
use Rattle.stores.proofs.FirstOf.{no_refusal}
use Rattle.demands.proofs.invariant.Counts.{records_are, entries_are, owed_is}
use Rattle.demands.proofs.page.DemandOne.{accepted, out-left}
use Rattle.demands.proofs.invariant.Invariant.{Inv, runs_at}
use Rattle.demands.proofs.invariant.Moment.{Moment, end}
use Rattle.demands.proofs.page.Lives.{Living, all_live, call_lives, refusals_are, accepted_is}
use Rattle.demands.proofs.invariant.NextKeeps.{Answered, next-keeps}
use Rattle.demands.proofs.lists.Places.{At}
use Rattle.demands.proofs.invariant.ReasonsAre.{scan_at, scan_of_lem}

module _ {now : Moment} (q : Inv now) (k : ℕ) (runs : no_scan now.store k ≡ false) (s : Scan) (is : scan_of now.history k ≡ some s) where
  -- the scan of the ticket, at its position
  here : At now.seats (position_of now.store k) s
  here =
      let w = scan_at q k runs in
      let e : scan_of now.history k ≡ some w.0 = ap (λ (x : ℕ). scan_of now.history x) (sym w.2) ∙ scan_of_lem q w.0 (runs_at q (position_of now.store k) w.0 w.1) in
      w.1 ∙ sym e ∙ is

  -- with a budget over T + R a walk hands out or finishes
  pub peek_right : Peeks (now.table ++ now.shelf) s (end now) (peeked now.store k)
  unfolding effect out_of number
  peek_right = go (walk now.store (position_of now.store k) (T now.store + R now.store) 0 []).answer refl (next-keeps q (position_of now.store k) s here (T now.store + R now.store) [])
    where
      go : (a : Answer) → (walk now.store (position_of now.store k) (T now.store + R now.store) 0 []).answer ≡ a
          → Answered q (position_of now.store k) s here (T now.store + R now.store) [] (walk now.store (position_of now.store k) (T now.store + R now.store) 0 []).answer (walk now.store (position_of now.store k) (T now.store + R now.store) 0 []).after (walk now.store (position_of now.store k) (T now.store + R now.store) 0 []).out
          → Peeks (now.table ++ now.shelf) s (end now) (peeked now.store k)
      go a e w = by_answer a (subst (Goes now.t now.r s (T now.store + R now.store) (peeked now.store k)) e w.right) (subst (LooksRight (now.table ++ now.shelf) s (peeked now.store k)) e w.looks) e
        where
          by_answer : (a : Answer) → Goes now.t now.r s (T now.store + R now.store) (peeked now.store k) a → LooksRight (now.table ++ now.shelf) s (peeked now.store k) a → (walk now.store (position_of now.store k) (T now.store + R now.store) 0 []).answer ≡ a → Peeks (now.table ++ now.shelf) s (end now) (peeked now.store k)
          by_answer Answer.done g l e = absurd g
          by_answer (Answer.begun x) g l e = absurd g
          by_answer (Answer.drew (Draw.in_hand x y)) g l e = inl (l.0, l.2, l.3)
          by_answer (Answer.drew (Draw.paused x)) g l e = let a : x ≡ T now.store + R now.store = g.0 in let b : s.looks + x < end now = g.1 in absurd (omega (arith, q.is_t, q.is_r))
          by_answer (Answer.drew (Draw.finished x y z)) g l e =
              let a : s.looks + x ≡ end now = g.3 in
              let b : end now - s.looks ≡ x = omega arith in
              inr (rw b l, out-left now.store (Call.next k (T now.store + R now.store) []) (λ f. let z : 101 ≡ 0 = sym (ap number e) ∙ f in omega arith))
          by_answer (Answer.shown s) g l e = absurd g
          by_answer (Answer.refused x) g l e = absurd g

module _ (o : Opening) (cs : List Call) (ws : All Within cs) where
  v : Living o.n (table_slots o) (shelf_entries o) (bytes_after called o cs) (past called o cs) (places_after called lowest o cs)
  v = all_live o cs ws

  unrefused : (c : Call) → Within c → reason o.n (table_slots o) (shelf_entries o) (past called o cs) c ≡ none → first_of (refusals (bytes_after called o cs) c) ≡ none
  unrefused c w e = refusals_are v c w ∙ e

  effect-answer : (c : Call) → Within c → reason o.n (table_slots o) (shelf_entries o) (past called o cs) c ≡ none → (called (bytes_after called o cs) c).answer ≡ (effect (read (bytes_after called o cs)) c).answer
  effect-answer c w e = ap (λ (x : Reply). x.answer) (accepted_is (bytes_after called o cs) c (unrefused c w e))

  looks_right : (k b : ℕ) (out : List ℕ) → Within (Call.next k b out) → reason o.n (table_slots o) (shelf_entries o) (past called o cs) (Call.next k b out) ≡ none → (s : Scan) → scan_of (past called o cs) k ≡ some s
      → LooksRight (row (places_after called lowest o cs)) s (called (bytes_after called o cs) (Call.next k b out)).out (called (bytes_after called o cs) (Call.next k b out)).answer
  looks_right k b out w e s is = ((call_lives v (Call.next k b out) w).stepped e).looked s is

  peeks_right : (k : ℕ) → Within (Call.reading (Reading.peek k)) → reason o.n (table_slots o) (shelf_entries o) (past called o cs) (Call.reading (Reading.peek k)) ≡ none → (s : Scan) → scan_of (past called o cs) k ≡ some s
      → (part : List ℕ) × ((called (bytes_after called o cs) (Call.reading (Reading.peek k))).answer ≡ Answer.shown (Shown.part part)) × Peeks (row (places_after called lowest o cs)) s (table_slots o + shelf_entries o) part
  unfolding effect own_refusals
  peeks_right k w e s is =
      let a = accepted (bytes_after called o cs) (Call.reading (Reading.peek k)) (unrefused (Call.reading (Reading.peek k)) w e) in
      (peeked (read (bytes_after called o cs)) k, effect-answer (Call.reading (Reading.peek k)) w e, peek_right v.keeps k a.others.0 s is)

  tallies_right : (called (bytes_after called o cs) (Call.reading Reading.tally)).answer ≡ Answer.shown (Shown.counted (length (past called o cs).live) (length (needed (past called o cs))))
  unfolding effect reasons
  tallies_right =
      effect-answer (Call.reading Reading.tally) tt no_refusal
      ∙ (λ i. (Answer.shown (Shown.counted (records_are v.keeps i) (entries_are v.keeps i))))

  owes_right : (k : ℕ) → Within (Call.reading (Reading.owed k)) → reason o.n (table_slots o) (shelf_entries o) (past called o cs) (Call.reading (Reading.owed k)) ≡ none → (s : Scan) → scan_of (past called o cs) k ≡ some s
      → (called (bytes_after called o cs) (Call.reading (Reading.owed k))).answer ≡ Answer.shown (Shown.owing (still_to_come (table_slots o) (past called o cs) s))
  unfolding effect own_refusals
  owes_right k w e s is =
      let a = accepted (bytes_after called o cs) (Call.reading (Reading.owed k)) (unrefused (Call.reading (Reading.owed k)) w e) in
      effect-answer (Call.reading (Reading.owed k)) w e
      ∙ ap (λ (z : ℕ). Answer.shown (Shown.owing z)) (owed_is v.keeps (position_of (read (bytes_after called o cs)) k) s
      (here v.keeps k a.others.0 s is))

pub rule_of_next : RuleOfNext called lowest
rule_of_next =
    record {
      looks = λ o cs ws k b out w e s is. looks_right o cs ws k b out w e s is;
      peeks = λ o cs ws k w e s is. peeks_right o cs ws k w e s is;
      tallies = λ o cs ws. tallies_right o cs ws;
      owes = λ o cs ws k w e s is. owes_right o cs ws k w e s is;
    }
