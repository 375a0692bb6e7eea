-- The calls of document 01, on lent bytes, meet everything that is demanded.
use mathlib.Core.Path.{◌≡◌}
use mathlib.Core.List.{List}
use Rattle.rules.specs.Passed.{All}
use Rattle.demands.specs.Lives.{Opening, bytes_after}
use Rattle.demands.specs.Machine.{Machine, Within}
use Rattle.demands.specs.Page.{Meets}
use Rattle.demands.specs.Placement.{lowest}
use Rattle.rules.specs.Refusals.{Call, called}
use Rattle.demands.proofs.page.DemandOne.{demand_1}
use Rattle.demands.proofs.page.DemandThree.{demand_3}
use Rattle.demands.proofs.page.DemandTwo.{demand_2}
use Rattle.demands.proofs.machines.Finishing.{ours-finish}
use Rattle.demands.proofs.machines.Lowest.{ours_the_lowest}
use Rattle.demands.proofs.page.MasksMove.{masks_move}
use Rattle.demands.proofs.machines.NoSmaller.{ours_no_smaller}
use Rattle.demands.proofs.page.Packing.{our_numbers_tell}
use Rattle.demands.proofs.page.PeekIsNext.{peek_is_next}
use Rattle.demands.proofs.machines.Refused.{room_of_ours}
use Rattle.demands.proofs.page.RuleOfNext.{rule_of_next}
use Rattle.demands.proofs.machines.SameBytes.{same_bytes}
use Rattle.demands.proofs.page.Spelt.{spelt}
use Rattle.demands.proofs.invariant.Steps.{lowest_takes}
use Rattle.demands.proofs.page.TableOne.{table-one}

pub ours : Meets called lowest
ours =
    record {
      one = demand_1;
      two = demand_2;
      three = demand_3;
      empty = lowest_takes;
      masks = masks_move;
      table_one = table-one;
      next = rule_of_next;
      spelt = spelt;
      peek = peek_is_next;
      lowest_number = ours_the_lowest;
      number_tells = our_numbers_tell;
      finishing = ours-finish;
      room = room_of_ours;
      tight = ours_no_smaller;
    }

-- and whatever machine meets it leaves the bytes that they leave
pub only_ours : (M : Machine) → Meets M lowest → (o : Opening) (cs : List Call) → All Within cs → bytes_after M o cs ≡ bytes_after called o cs
only_ours M m o cs ws = same_bytes called M lowest ours m o cs ws
