use mathlib.Core.Path.{refl}
use Rattle.std.proofs.Common.{rules}
use Rattle.rules.specs.Refusals.{Call, Reading, own_right, looks_at_desk, refused_as, out_of}
use Rattle.inarumpit.proofs.Replies.{by_way, let_through, by_reading}
use Rattle.inarumpit.proofs.calls.peek.Goals as goal

pub returns-in-Err : goal.returns-in-Err
unfolding own_right looks_at_desk refused_as out_of
returns-in-Err c =
    let err = c.in-Err in
    (by_way (Call.reading (Reading.peek c.args.ticket.0)) refl refl err.field-0 err.ensures, λ n. absurd (n refl))

pub returns-in-Ok : goal.returns-in-Ok
unfolding own_right looks_at_desk
returns-in-Ok c =
    let ok = c.in-Ok in
    let through = let_through (Call.reading (Reading.peek c.args.ticket.0)) refl refl ok.ensures.1 (λ j. search rules) (λ j. search rules) (λ j. search rules) in
    (by_reading through (rw (ok.ensures.0, ok.ensures.2, ok.ensures.3) at c.peek.ensures.0), rw (ok.ensures.0, ok.ensures.2, ok.ensures.3) at c.peek.ensures.1)
