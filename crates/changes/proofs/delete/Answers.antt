use mathlib.Core.Path.{refl}
use native.Mathlib.Omega.{arith}
use Rattle.std.proofs.Common.{rules}
use Rattle.rules.specs.Answers.{says, number_of, change_tells}
use Rattle.rules.specs.Memory.{store_of}
use Rattle.rules.proofs.Refused.{refused-on}
use Rattle.joins.proofs.Cases.{delete-zero}
use Rattle.changes.proofs.Ways.{deletes_absent, deletes, deletes_room}
use Rattle.changes.proofs.delete.Goals as goal

pub returns-then-eq : goal.returns-then-eq
unfolding says number_of
returns-then-eq c =
    let args = c.args in
    delete-zero (store_of args.desk.now args.table.now args.shelf.now) args.k.0 (search rules)

pub returns-in_default : goal.returns-in_default
unfolding says number_of
returns-in_default c =
    let args = c.args in
    let none = c.in_default in
    let f = none.ensures in
    deletes_absent args.desk.now args.table.now args.shelf.now args.k.0 _ refl (search rules) (omega (arith, f))

pub returns-in_err-keep : goal.returns-in_err-keep
returns-in_err-keep c =
    let args = c.args in
    let some = c.in-Some in
    let f = some.ensures in
    rw (refused-on change_tells c.from_residual.result c.in_err-keep.field-0.0 c.from_residual.ensures.1)
    (deletes_room args.desk.now args.table.now args.shelf.now args.k.0 some.i.0 f.0 (omega (arith, f)) c.masks_at.ensures (rw c.in_err-keep.was at c.keep.ensures) (search rules))

pub returns : goal.returns
unfolding says
returns c =
    let args = c.args in
    let some = c.in-Some in
    let f = some.ensures in
    deletes args.desk.now args.table.now args.shelf.now args.k.0 some.i.0 f.0 (omega (arith, f)) c.masks_at.ensures c.in_ok-keep.field-0 (rw c.in_ok-keep.was at c.keep.ensures) (omega arith) (λ j. omega arith) (λ j. search rules) (search rules) c.free.ensures
