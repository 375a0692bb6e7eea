-- The calls of document 01, on lent bytes, meet demand 2.
use mathlib.Core.Path.{◌≡◌, sym, ap, ◌∙◌}
use Rattle.demands.specs.DemandTwo.{Demand2}
use Rattle.demands.specs.Lives.{Opening, table_slots, shelf_entries, Accepted}
use Rattle.rules.specs.Calls.{opened}
use Rattle.rules.specs.Memory.{written}
use Rattle.rules.specs.Refusals.{Reply, effect, called}
use Rattle.demands.proofs.page.Lives.{opening_is, opening_writes, call_lives, all_live}

opens : (o : Opening) → Accepted called o
unfolding effect
opens o = ap (λ (r : Reply). r.answer) (opening_is o)

pub demand_2 : Demand2 called
demand_2 =
    record {
      opens = opens;
      alike = λ o p en et er. opening_writes o ∙ same o p en et er ∙ sym (opening_writes p);
      answers = λ o cs ws c w. (call_lives (all_live o cs ws) c w).answers;
    }
  where
    same : (o p : Opening) → o.n ≡ p.n → table_slots o ≡ table_slots p → shelf_entries o ≡ shelf_entries p → written (opened o.n (table_slots o) (shelf_entries o)) ≡ written (opened p.n (table_slots p) (shelf_entries p))
    same o p en et er = λ i. written (opened (en i) (et i) (er i))
