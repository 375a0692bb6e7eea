-- What is demanded of a machine, on one page.
use Rattle.demands.specs.DemandOne.{Demand1}
use Rattle.demands.specs.DemandThree.{Demand3, AlwaysRoom, NoSmaller}
use Rattle.demands.specs.DemandTwo.{Demand2}
use Rattle.demands.specs.Finishing.{Finishing}
use Rattle.demands.specs.Lowest.{LowestAnswered}
use Rattle.demands.specs.Machine.{Machine}
use Rattle.demands.specs.Masks.{MasksMove}
use Rattle.demands.specs.Packing.{NumberTells}
use Rattle.demands.specs.Placement.{Placing, TakesEmpty}
use Rattle.demands.specs.RuleOfNext.{RuleOfNext, PeekIsNext}
use Rattle.demands.specs.Spelt.{Spelt}
use Rattle.demands.specs.TableOne.{TableOne}

-- P: the place that a version takes in table and shelf, and a scan on the desk; the demands do without it
pub record Meets (M : Machine) (P : Placing) : Type 0 where
  -- every call comes back; refused by its number, and then no byte moves
  pub one : Demand1 M
  -- in a store we opened: refused only for a reason; a scan hands out exactly what it began with, each once
  pub two : Demand2 M
  -- the shelf holds one entry for each version that is still needed, and nothing more
  pub three : Demand3 M
  -- a newcomer takes an empty place, if there is one
  pub empty : TakesEmpty P
  -- the masks say, and move, as in section III-A
  pub masks : MasksMove M P
  pub table_one : TableOne M P
  -- the looks are those of the rule of next; peek, tally and owed accordingly
  pub next : RuleOfNext M P
  -- what stands in every other byte
  pub spelt : Spelt M P
  -- what peek tells is what next would hand out, on any lent bytes
  pub peek : PeekIsNext M
  -- where several reasons hold, the lowest number is answered (from demands 1 and 2)
  pub lowest_number : LowestAnswered M
  -- the one number that a C host is returned tells the answer (from demand 1)
  pub number_tells : NumberTells M
  -- whatever comes between, a scan finishes (from demand 2)
  pub finishing : Finishing M
  -- a shelf of N times T entries is always large enough (from demand 2)
  pub room : AlwaysRoom M
  -- and no smaller one is (from demand 2)
  pub tight : NoSmaller M
