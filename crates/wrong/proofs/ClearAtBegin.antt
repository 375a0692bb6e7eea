-- The store that clears its bits at begin answers as ours does and holds the same versions: it meets demands 2 and 3. Its masks do not
-- move as in section III-A: its stable bits never turn.
use mathlib.Core.Path.{◌≡◌, refl, sym, ap, ◌∙◌, subst}
use mathlib.Core.Option.{Option, none, some}
use mathlib.Core.List.{List, [], ◌∷◌}
use Prim.Native.Nat.{ℕ, ◌<◌}
use native.Mathlib.Omega.{arith}
use lib.ListN.{length, get_or}
use Rattle.wrong.specs.ClearAtBegin.{clear_at_begin}
use Rattle.demands.specs.DemandThree.{Reads, Holds, Demand3}
use Rattle.demands.specs.DemandTwo.{Fulfils, Answers, Demand2}
use Rattle.demands.specs.History.{Version, scan, History, history, needed, heard, tells}
use Rattle.idle.specs.Idle.{buffer}
use Rattle.rules.specs.Passed.{All}
use Rattle.demands.specs.Lives.{table_slots, shelf_entries, bytes_after, events, past}
use Rattle.demands.specs.Machine.{Within}
use Rattle.demands.specs.Masks.{walks_ended, MasksMove}
use Rattle.demands.specs.Placement.{Placing, TakesEmpty, moves, all_told, placed}
use Rattle.demands.specs.Reasons.{reasons, reason}
use Rattle.rules.specs.Answers.{Answer, Draw}
use Rattle.rules.specs.Calls.{slot_in}
use Rattle.rules.specs.Masks.{bit}
use Rattle.rules.specs.Memory.{Lent, Slot, Store, slots_of, store_of}
use Rattle.rules.specs.Refusals.{Call, first_of, called}
use Rattle.rules.proofs.Bits.{bit-zero}
use Rattle.wrong.proofs.AlikeLives.{Twins, opens, opening-same, next_both, along}
use Rattle.idle.proofs.OneMore.{one_more, answered, pauses}
use Rattle.demands.proofs.machines.Small.{small, tiny}
use Rattle.demands.proofs.page.DemandThree.{demand_3}
use Rattle.demands.proofs.page.DemandTwo.{demand_2}
use Rattle.stores.proofs.Sizes.{zero-bytes}

-- ---- the answers

pub clear_at_begin_meets_2 : Demand2 clear_at_begin
clear_at_begin_meets_2 =
    record {
      opens = opens;
      alike = λ o p en et er. opening-same o ∙ demand_2.alike o p en et er ∙ sym (opening-same p);
      answers = λ o cs ws c w.
          let z = along o cs ws in
          subst (λ (h : History). Answers (table_slots o) (shelf_entries o) h (reason o.n (table_slots o) (shelf_entries o) h c) c (clear_at_begin (bytes_after clear_at_begin o cs) c).answer (clear_at_begin (bytes_after clear_at_begin o cs) c).out) (sym z.told)
          (next_both o cs ws z c w).answers;
    }

-- ---- the versions that both hold

module _ (l k : Lent) (w : Twins l k) where
  shelf-held : (vs : List Version) → Holds l.shelf vs → Holds k.shelf vs
  unfolding store_of
  shelf-held vs q =
      let e : slots_of k.shelf ≡ slots_of l.shelf = ap (λ (Z : Store). Z.shelf) w.stores.is in
      record { which = q.which; all = q.all ∙ ap length (sym e); each = q.each; spelt = λ i. rw e (q.spelt i) }

  table-held : (vs : List Version) → Holds l.table vs → Holds k.table vs
  unfolding store_of
  table-held vs q =
      let e : slots_of k.table ≡ w.stores.table = ap (λ (Z : Store). Z.table) w.stores.is in
      record { which = q.which; all = q.all ∙ sym (ap length e ∙ w.stores.alike.all); each = q.each; spelt = λ i. rw e (go i (get_or q.which i none) (q.spelt i)) }
    where
      go : (i : ℕ) (x : Option Version) → Reads (slot_in (slots_of l.table) i) x → Reads (slot_in w.stores.table i) x
      go i none f = (w.stores.alike.slots i).empty (ap (λ (s : Slot). s.number) f) ∙ f
      go i (some v) f = ((w.stores.alike.slots i).number ∙ f.0, (w.stores.alike.slots i).body ∙ f.1)

pub clear_at_begin_meets_3 : Demand3 clear_at_begin
clear_at_begin_meets_3 =
    record {
      shelf = λ o a cs ws.
          let z = along o cs ws in
          subst (λ (h : History). Holds (bytes_after clear_at_begin o cs).shelf (needed h)) (sym z.told) (shelf-held _ _ z.twins (needed (past called o cs)) (demand_3.shelf o (demand_2.opens o) cs ws));
      table = λ o a cs ws.
          let z = along o cs ws in
          subst (λ (h : History). Holds (bytes_after clear_at_begin o cs).table h.live) (sym z.told) (table-held _ _ z.twins (past called o cs).live (demand_3.table o (demand_2.opens o) cs ws));
    }

-- ---- the masks

-- a scan begins and walks its one slot; newest first
abbrev one-walk : List Call
one-walk = Call.next 1 1 buffer ∷ Call.begin ∷ []

one-walk-within : All Within one-walk
unfolding buffer
one-walk-within = ((omega arith, omega arith, zero-bytes 56), (tt, tt))

-- there is one position to take
first_taken : (P : Placing) → TakesEmpty P → (P (all_told [])).scan (none ∷ []) ≡ 0
first_taken P e = let h : (P (all_told [])).scan (none ∷ []) < 1 = (e.scan (all_told []) (none ∷ []) 0 (omega arith) refl).0 in omega arith

-- what the calls are answered
begun_first : (clear_at_begin (bytes_after clear_at_begin tiny []) Call.begin).answer ≡ Answer.begun 1
unfolding events tells tiny small reasons first_of Fulfils
begun_first = answered clear_at_begin tiny [] (tells []) refl Call.begin clear_at_begin_meets_2 tt tt

begun-told : past clear_at_begin tiny (Call.begin ∷ []) ≡ history 0 [] [] 1 (scan 1 [] [] 0 ∷ [])
unfolding events tells heard
begun-told = one_more clear_at_begin tiny [] (tells []) refl Call.begin _ begun_first

paused-next : (clear_at_begin (bytes_after clear_at_begin tiny (Call.begin ∷ [])) (Call.next 1 1 buffer)).answer ≡ Answer.drew (Draw.paused 1)
unfolding tiny small reasons first_of Fulfils buffer
paused-next = pauses 0 _ _ (answered clear_at_begin tiny (Call.begin ∷ []) (history 0 [] [] 1 (scan 1 [] [] 0 ∷ [])) begun-told (Call.next 1 1 buffer) clear_at_begin_meets_2 one-walk-within.1 one-walk-within.0)

-- one table walk has ended, and the stable bit is 0
pub clear_at_begin_fails_masks : (P : Placing) → TakesEmpty P → MasksMove clear_at_begin P → ⊥
unfolding MasksMove walks_ended events tells heard tiny small placed all_told moves
clear_at_begin_fails_masks P t d =
    let m = ap (λ (S : Store). S.desk.masks.stable) (along tiny one-walk one-walk-within).twins.stores.is in
    let e : ◌≡◌ {A = ℕ} 0 1 = sym (ap (λ (x : ℕ). bit x 0) m ∙ bit-zero 0) ∙ rw (begun_first, paused-next, first_taken P t) at ((d tiny (opens tiny) one-walk one-walk-within).stable 0 (omega arith)) in
    omega arith
