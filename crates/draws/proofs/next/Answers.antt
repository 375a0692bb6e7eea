use mathlib.Core.Path.{◌∙◌}
use Rattle.rules.specs.Answers.{says, number_of}
use Rattle.running.proofs.Scan.{scan_runs}
use Rattle.draws.proofs.Nexts.{nexts_none, nexts_goes}
use Rattle.draws.proofs.next.Goals as goal

pub returns-in_default : goal.returns-in_default
unfolding says number_of
returns-in_default c =
    let args = c.args in
    let none = c.in_default in
    nexts_none args.desk.now args.table.now args.shelf.now args.ticket.0 args.budget args.out.now none.ensures

pub go_on-requires : goal.go_on-requires
go_on-requires c =
    let args = c.args in
    let some = c.in-Some in
    let f = some.ensures in
    (c.requires, scan_runs args.desk.now args.table.now args.shelf.now args.ticket.0 f.0 f.1)

pub returns : goal.returns
unfolding says
returns c =
    let args = c.args in
    let some = c.in-Some in
    let f = some.ensures in
    c.go_on.ensures ∙ nexts_goes args.desk.now args.table.now args.shelf.now args.ticket.0 args.budget args.out.now f.0 f.1
