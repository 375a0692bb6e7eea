use mathlib.Core.Path.{refl}
use lib.ListN.{length}
use borrow.Author.Tests.{eq-eqb, ne_eqb}
use Rattle.std.proofs.Common.{rules}
use Rattle.rules.specs.Answers.{change_tells, says, number_of}
use Rattle.rules.specs.Refusals.{Call, Change, own_right, looks_at_desk, refused_as, out_of}
use Rattle.rules.proofs.Refused.{refused-on}
use Rattle.inarumpit.proofs.Replies.{by_own_length, by_way, let_through, by_rule}
use Rattle.inarumpit.proofs.calls.modify.Goals as goal

pub returns-in_default : goal.returns-in_default
unfolding says number_of own_right looks_at_desk refused_as out_of
returns-in_default c =
    let none = c.in_default in
    by_own_length (Call.change (Change.modify c.args.k.0 c.args.body.now)) (ne_eqb (length c.args.body.now) 52 none.ensures.cases)

pub returns-in_err-desk : goal.returns-in_err-desk
unfolding own_right looks_at_desk refused_as out_of
returns-in_err-desk c =
    let some = c.in-Some in
    rw (refused-on change_tells c.from_residual.result c.in_err-desk.field-0.0 c.from_residual.ensures.1)
    (by_way (Call.change (Change.modify c.args.k.0 c.args.body.now)) (eq-eqb (length c.args.body.now) 52 some.ensures.cases.long) refl c.in_err-desk.field-0.0 c.in_err-desk.ensures)

pub returns : goal.returns
unfolding own_right looks_at_desk
returns c =
    let some = c.in-Some in
    let through = let_through (Call.change (Change.modify c.args.k.0 c.args.body.now)) (eq-eqb (length c.args.body.now) 52 some.ensures.cases.long) refl c.in_ok-desk.ensures.1 (λ j. search rules) (λ j. search rules) (λ j. search rules) in
    by_rule through refl (search rules) (search rules) through.desk_bytes (λ j. search rules) (λ j. search rules) (rw (c.in_ok-desk.ensures.0, some.ensures.cases.same) at c.modify.ensures)
