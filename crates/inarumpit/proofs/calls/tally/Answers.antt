use mathlib.Core.Path.{refl}
use Rattle.std.proofs.Common.{rules}
use Rattle.rules.specs.Answers.{tally_tells, says}
use Rattle.rules.specs.Refusals.{Call, Reading, own_right, looks_at_desk, refused_as, out_of}
use Rattle.rules.proofs.Refused.{refused-on}
use Rattle.inarumpit.proofs.Replies.{by_way, let_through, by_reading}
use Rattle.inarumpit.proofs.calls.tally.Goals as goal

pub returns-in_err-store : goal.returns-in_err-store
unfolding own_right looks_at_desk refused_as out_of
returns-in_err-store c =
    rw (refused-on tally_tells c.from_residual.result c.in_err-store.field-0.0 c.from_residual.ensures.1) (by_way (Call.reading Reading.tally) refl refl c.in_err-store.field-0.0 c.in_err-store.ensures)

pub returns : goal.returns
unfolding own_right looks_at_desk says
returns c =
    let through = let_through (Call.reading Reading.tally) refl refl c.in_ok-store.ensures.1 (λ j. search rules) (λ j. search rules) (λ j. search rules) in
    by_reading through (rw (c.in_ok-store.ensures.2, c.in_ok-store.ensures.3) at (c.tally.ensures c.args.desk.now))
