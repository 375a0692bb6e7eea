use mathlib.Core.Path.{refl}
use native.Mathlib.Omega.{arith}
use Rattle.std.proofs.Common.{rules}
use Rattle.rules.specs.Answers.{says, number_of, change_tells}
use Rattle.rules.specs.Memory.{store_of}
use Rattle.rules.proofs.Refused.{refused-on}
use Rattle.search.proofs.Passing.{is_found, is_not}
use Rattle.joins.proofs.Cases.{insert-zero, insert_kind}
use Rattle.changes.proofs.Ways.{inserts_there, inserts_full, inserts}
use Rattle.changes.proofs.insert.Goals as goal

pub returns-then-eq : goal.returns-then-eq
unfolding says number_of
returns-then-eq c =
    let args = c.args in
    λ s. insert-zero (store_of args.desk.now args.table.now s) args.k.0 args.body.now (search rules)

pub returns-in_err-try_from : goal.returns-in_err-try_from
unfolding number_of
returns-in_err-try_from c =
    let args = c.args in
    let f = c.in_err-try_from.ensures in
    λ s. rw (refused-on change_tells c.from_residual.result c.in_err-try_from.field-0.0 c.from_residual.ensures.1, f.0) (insert_kind (store_of args.desk.now args.table.now s) args.k.0 args.body.now (search rules) f.1)

pub returns-in_default : goal.returns-in_default
unfolding says number_of
returns-in_default c =
    let args = c.args in
    let none = c.in_default in
    let f = none.ensures in
    λ s. inserts_full args.desk.now args.table.now s args.k.0 args.body.now (search rules) c.in_ok-try_from.ensures.1 _ refl (omega (arith, f))

pub returns-then-is_there : goal.returns-then-is_there
unfolding says number_of
returns-then-is_there c =
    let args = c.args in
    let free = c.in-Some in
    let f = free.ensures in
    λ s. inserts_there args.desk.now args.table.now s args.k.0 args.body.now (search rules) c.in_ok-try_from.ensures.1 free.free.0 f.0 (is_found c.bearing.result _ _ (search rules) c.bearing.ensures)

pub returns : goal.returns
unfolding says
returns c =
    let args = c.args in
    let free = c.in-Some in
    let f = free.ensures in
    let absent = is_not c.bearing.result _ _ (search rules) c.bearing.ensures in
    λ s. inserts args.desk.now args.table.now s args.k.0 args.body.now (search rules) c.in_ok-try_from.ensures.1 free.free.0 f.0 (omega (arith, absent)) (omega (arith, f)) (omega arith) (omega arith) c.masks_at.ensures c.new_status-status.ensures c.put_record.ensures
