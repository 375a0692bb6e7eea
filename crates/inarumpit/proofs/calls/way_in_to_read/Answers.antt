use mathlib.Core.Path.{refl}
use Rattle.std.proofs.Common.{rules}
use Rattle.rules.proofs.Bytes.{Bytes}
use Rattle.inarumpit.proofs.Replies.{way_shut, way_ready}
use Rattle.inarumpit.proofs.calls.way_in_to_read.Goals as goal

pub returns-in_err-desk : goal.returns-in_err-desk
returns-in_err-desk c = way_shut c.args.desk.now c.args.table c.args.shelf c.from_residual.result c.in_err-desk.field-0.0 c.from_residual.ensures.1 c.in_err-desk.ensures

-- what the store holds of its parts
pub invariant_of-result : goal.invariant_of-result
invariant_of-result c =
    let args = c.args in
    let table : Bytes args.table.now = λ j. search rules in
    let shelf : Bytes args.shelf.now = λ j. search rules in
    record { ready = rw c.in_ok-desk.ensures.0 (way_ready args.desk.now args.table.now args.shelf.now c.in_ok-desk.ensures.1); bytes = (table, shelf) }

pub returns : goal.returns
returns c = (c.in_ok-desk.ensures.0, c.in_ok-desk.ensures.1, refl, refl)
