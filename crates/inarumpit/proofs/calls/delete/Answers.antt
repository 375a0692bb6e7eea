use mathlib.Core.Path.{refl}
use Rattle.std.proofs.Common.{rules}
use Rattle.rules.specs.Answers.{change_tells}
use Rattle.rules.specs.Refusals.{Call, Change, own_right, looks_at_desk, refused_as, out_of}
use Rattle.rules.proofs.Refused.{refused-on}
use Rattle.inarumpit.proofs.Replies.{by_way, let_through, by_rule}
use Rattle.inarumpit.proofs.calls.delete.Goals as goal

pub returns-in_err-desk : goal.returns-in_err-desk
unfolding own_right looks_at_desk refused_as out_of
returns-in_err-desk c =
    rw (refused-on change_tells c.from_residual.result c.in_err-desk.field-0.0 c.from_residual.ensures.1)
    (by_way (Call.change (Change.delete c.args.k.0)) refl refl c.in_err-desk.field-0.0 c.in_err-desk.ensures)

pub returns : goal.returns
unfolding own_right looks_at_desk
returns c =
    let through = let_through (Call.change (Change.delete c.args.k.0)) refl refl c.in_ok-desk.ensures.1 (λ j. search rules) (λ j. search rules) (λ j. search rules) in
    by_rule through refl (search rules) (search rules) through.desk_bytes (λ j. search rules) (λ j. search rules) (rw c.in_ok-desk.ensures.0 at c.delete.ensures)
