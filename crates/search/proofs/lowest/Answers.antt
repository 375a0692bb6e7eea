use Prim.Native.Nat.{◌-◌, ◌/◌}
use lib.ListN.{length}
use Rattle.std.proofs.Common.{rules}
use Rattle.rules.specs.Memory.{slots_of}
use Rattle.fours.proofs.First.{first_by_cases}
use Rattle.search.specs.Passed.{bears_either}
use Rattle.search.proofs.lowest.Goals as goal

pub returns : goal.returns
returns c =
    let from = c.from in
    let count = c.slot_count in
    let lowest = c.lowest in
    let map = c.map in
    let t = first_by_cases (bears_either (slots_of c.args.slots.now) c.args.k.0 c.args.l.0) _ _ _ (length c.args.slots.now / 64 - c.args.from.0) _ _ lowest.ensures (search rules) (search rules) (search rules) in
    search rules
