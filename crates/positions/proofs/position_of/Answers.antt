use Rattle.std.proofs.Common.{rules}
use Rattle.desk.specs.Tickets.{bears_ticket}
use Rattle.fours.proofs.First.{first_by_cases}
use Rattle.positions.proofs.Position.{position_found, position_nowhere}
use Rattle.positions.proofs.position_of.Goals as goal

pub returns : goal.returns
returns c =
    let n = c.counts-n in
    let lowest = c.lowest in
    let map = c.map in
    let t = first_by_cases (bears_ticket c.args.desk.now c.args.ticket.0) _ _ 0 n.result.n n.result.n _ lowest.ensures (search rules) (search rules) (search rules) in
    let found = position_found c.args.desk.now c.args.ticket.0 n.result.n (search rules) (search rules) in
    let nowhere = position_nowhere c.args.desk.now c.args.ticket.0 n.result.n (search rules) (search rules) in
    search rules
