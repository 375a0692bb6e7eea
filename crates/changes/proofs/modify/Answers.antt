use mathlib.Core.Path.{refl}
use native.Mathlib.Omega.{arith}
use Rattle.std.proofs.Common.{rules}
use Rattle.rules.specs.Answers.{says, number_of, change_tells}
use Rattle.rules.specs.Memory.{store_of}
use Rattle.rules.proofs.Refused.{refused-on}
use Rattle.joins.proofs.Cases.{modify-zero, modify_kind}
use Rattle.shelving.proofs.Keeps.{no_room_says}
use Rattle.changes.proofs.Ways.{modifies_absent, modifies_unawaited, modifies_shelved, modifies_room}
use Rattle.changes.proofs.modify.Goals as goal

pub returns-then-eq : goal.returns-then-eq
unfolding says number_of
returns-then-eq c =
    let args = c.args in
    modify-zero (store_of args.desk.now args.table.now args.shelf.now) args.k.0 args.body.now (search rules)

pub returns-in_err-try_from : goal.returns-in_err-try_from
unfolding number_of
returns-in_err-try_from c =
    let args = c.args in
    let f = c.in_err-try_from.ensures in
    rw (refused-on change_tells c.from_residual.result c.in_err-try_from.field-0.0 c.from_residual.ensures.1, f.0) (modify_kind (store_of args.desk.now args.table.now args.shelf.now) args.k.0 args.body.now (search rules) f.1)

pub returns-in_default : goal.returns-in_default
unfolding says number_of
returns-in_default c =
    let args = c.args in
    let none = c.in_default in
    let f = none.ensures in
    modifies_absent args.desk.now args.table.now args.shelf.now args.k.0 _ refl args.body.now (search rules) c.in_ok-try_from.ensures.1 (omega (arith, f))

pub returns-in_default-keep : goal.returns-in_default-keep
unfolding says number_of
returns-in_default-keep c =
    let args = c.args in
    let some = c.in-Some in
    let f = some.ensures in
    let room = rw c.in_default-keep.is at c.keep.ensures in
    rw (no_room_says _ _ _ _ _ room).0 at (modifies_room args.desk.now args.table.now args.shelf.now args.k.0 some.there.0 f.0 (omega (arith, f)) c.masks_at-masks.ensures room args.body.now (search rules) c.in_ok-try_from.ensures.1)

pub returns-in-Unawaited : goal.returns-in-Unawaited
unfolding says
returns-in-Unawaited c =
    let args = c.args in
    let some = c.in-Some in
    let f = some.ensures in
    modifies_unawaited args.desk.now args.table.now args.shelf.now args.k.0 some.there.0 f.0 (omega (arith, f)) c.masks_at-masks.ensures (rw (c.in-Ok.is, c.in-Unawaited.is) at c.keep.ensures) args.body.now (search rules) c.in_ok-try_from.ensures.1 (omega arith) c.put_body.ensures

pub returns-in-Shelved : goal.returns-in-Shelved
unfolding says
returns-in-Shelved c =
    let args = c.args in
    let some = c.in-Some in
    let f = some.ensures in
    modifies_shelved args.desk.now args.table.now args.shelf.now args.k.0 some.there.0 f.0 (omega (arith, f)) c.masks_at-masks.ensures (rw (c.in-Ok.is, c.in-Shelved.is) at c.keep.ensures) (omega arith) (λ j. omega arith) (λ j. search rules) args.body.now (search rules) c.in_ok-try_from.ensures.1 (omega arith) c.put_body.ensures c.new_status.ensures c.put_mask.ensures
