use mathlib.Core.Path.{refl}
use Rattle.std.proofs.Common.{rules}
use Rattle.rules.specs.Answers.{begin_tells}
use Rattle.rules.specs.Refusals.{Call, own_right, looks_at_desk, refused_as, out_of}
use Rattle.rules.proofs.Refused.{refused-on}
use Rattle.soundness.proofs.Says.{n_most}
use Rattle.inarumpit.proofs.Replies.{by_lengths, by_sound, by_way, let_through, by_rule}
use Rattle.inarumpit.proofs.calls.begin.Goals as goal

pub returns-in_err-way_in : goal.returns-in_err-way_in
unfolding own_right looks_at_desk refused_as out_of
returns-in_err-way_in c =
    rw (refused-on begin_tells c.from_residual.result c.in_err-way_in.field-0.0 c.from_residual.ensures.1) (by_way Call.begin refl refl c.in_err-way_in.field-0.0 c.in_err-way_in.ensures)

pub unwrap-desk-requires : goal.unwrap-desk-requires
unfolding own_right looks_at_desk
unwrap-desk-requires c =
    let through = let_through Call.begin refl refl c.in_ok-way_in.ensures.1 (λ j. search rules) (λ j. search rules) (λ j. search rules) in
    let e = (by_lengths through).desk in
    search rules

pub begin-requires : goal.begin-requires
unfolding own_right looks_at_desk
begin-requires c =
    let args = c.args in
    let same = (rw c.unwrap-desk.ensures at c.as_mut_array.ensures.cases).same in
    let through = let_through Call.begin refl refl c.in_ok-way_in.ensures.1 (λ j. search rules) (λ j. search rules) (λ j. search rules) in
    rw same (n_most args.desk.now args.table.now args.shelf.now (by_sound through refl))

pub returns : goal.returns
unfolding own_right looks_at_desk
returns c =
    let args = c.args in
    let same = (rw c.unwrap-desk.ensures at c.as_mut_array.ensures.cases).same in
    let through = let_through Call.begin refl refl c.in_ok-way_in.ensures.1 (λ j. search rules) (λ j. search rules) (λ j. search rules) in
    by_rule through (search rules) refl refl (λ j. search rules) through.table_bytes through.shelf_bytes (rw same at (c.begin.ensures args.table.now args.shelf.now))
