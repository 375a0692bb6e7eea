-- A machine with demands 1 and 2 answers the lowest number of those that apply.
use mathlib.Core.Path.{◌≡◌, refl, sym, ap, ◌∙◌}
use mathlib.Core.Bool.{true}
use mathlib.Core.Option.{Option, none, some}
use mathlib.Core.Logic.{◌↔◌}
use Prim.Native.Nat.{ℕ}
use Rattle.demands.specs.DemandOne.{Demand1}
use Rattle.demands.specs.DemandTwo.{Demand2}
use Rattle.demands.specs.Lives.{table_slots, shelf_entries, past}
use Rattle.demands.specs.Lowest.{Lowest, LowestAnswered}
use Rattle.rules.specs.Passed.{Well, LentBytes}
use Rattle.demands.specs.Machine.{Machine, exported}
use Rattle.demands.specs.Reasons.{reasons}
use Rattle.rules.specs.Answers.{Answer}
use Rattle.rules.specs.Memory.{Lent}
use Rattle.rules.specs.Refusals.{Call, first_of, refusals, called}
use Rattle.demands.proofs.page.DemandOne.{demand_1}
use Rattle.demands.proofs.page.DemandTwo.{demand_2}
use Rattle.demands.proofs.machines.Refused.{refused_as_lem, refused_iff}
use Rattle.demands.proofs.page.Rising.{first-lowest, refusals_rise, reasons_rise}

-- ---- on any lent bytes

module _ (M : Machine) (d : Demand1 M) (l : Lent) (c : Call) (x : exported c ≡ true) (a : LentBytes l) (w : Well c) (k : ℕ) where
  answered : first_of (refusals l c) ≡ some k → (M l c).answer ≡ Answer.refused k
  answered e = (d.refuses l c k a w e).0 ∙ refused_as_lem c x k

  first_answered : (M l c).answer ≡ Answer.refused k → first_of (refusals l c) ≡ some k
  first_answered e = go (first_of (refusals l c)) refl
    where
      go : (y : Option ℕ) → first_of (refusals l c) ≡ y → first_of (refusals l c) ≡ some k
      go none f = absurd (d.accepts l c k a w f e)
      go (some j) f =
          let z : Answer.refused j ≡ Answer.refused k = sym ((d.refuses l c j a w f).0 ∙ refused_as_lem c x j) ∙ e in
          let y : j ≡ k = cc in
          f ∙ ap some y

  lowest-anywhere : ((M l c).answer ≡ Answer.refused k) ↔ Lowest (refusals l c) k
  lowest-anywhere = let f = first-lowest 0 (refusals l c) (refusals_rise l c) k in ((λ e. f.0 (first_answered e)), (λ v. answered (f.1 v)))

-- ---- and in a life

pub lowest_answered : (M : Machine) → Demand1 M → Demand2 M → LowestAnswered M
lowest_answered M d t =
    record {
      anywhere = lowest-anywhere M d;
      in_life = λ o cs ws c x w k.
          let h = past M o cs in
          let f = first-lowest 0 (reasons o.n (table_slots o) (shelf_entries o) h c) (reasons_rise o.n (table_slots o) (shelf_entries o) h c) k in
          let r = refused_iff M t o cs ws c w x k in
          ((λ e. f.0 (r.0 e)), (λ v. r.1 (f.1 v)));
    }

pub ours_the_lowest : LowestAnswered called
ours_the_lowest = lowest_answered called demand_1 demand_2
