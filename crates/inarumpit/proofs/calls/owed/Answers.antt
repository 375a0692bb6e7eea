use mathlib.Core.Path.{refl}
use Rattle.std.proofs.Common.{rules}
use Rattle.rules.specs.Answers.{owed_tells}
use Rattle.rules.specs.Refusals.{Call, Reading, own_right, looks_at_desk, refused_as, out_of}
use Rattle.rules.proofs.Refused.{refused-on}
use Rattle.inarumpit.proofs.Replies.{by_way, let_through, by_reading}
use Rattle.inarumpit.proofs.calls.owed.Goals as goal

pub returns-in_err-store : goal.returns-in_err-store
unfolding own_right looks_at_desk refused_as out_of
returns-in_err-store c =
    rw (refused-on owed_tells c.from_residual.result c.in_err-store.field-0.0 c.from_residual.ensures.1) (by_way (Call.reading (Reading.owed c.args.ticket.0)) refl refl c.in_err-store.field-0.0 c.in_err-store.ensures)

pub returns : goal.returns
unfolding own_right looks_at_desk
returns c =
    let through = let_through (Call.reading (Reading.owed c.args.ticket.0)) refl refl c.in_ok-store.ensures.1 (λ j. search rules) (λ j. search rules) (λ j. search rules) in
    by_reading through (rw (c.in_ok-store.ensures.0, c.in_ok-store.ensures.2, c.in_ok-store.ensures.3) at c.owed.ensures)
