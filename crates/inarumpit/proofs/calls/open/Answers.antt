use native.Mathlib.Omega.{arith}
use mathlib.Core.Path.{refl}
use Rattle.std.proofs.Common.{rules, true, false}
use Rattle.rules.specs.Answers.{says, number_of}
use Rattle.rules.specs.Refusals.{Call, own_right, looks_at_desk, refused_as, out_of}
use Rattle.inarumpit.proofs.Replies.{way_wrong, way_lengths, way_blind, let_in, by_refusal, by_rule}
use Rattle.inarumpit.proofs.calls.open.Goals as goal

pub returns-then-not-lengths_right : goal.returns-then-not-lengths_right
unfolding says number_of own_right looks_at_desk refused_as out_of
returns-then-not-lengths_right c =
    let args = c.args in
    by_refusal (Call.opening args.n) (way_wrong true false args.desk.now args.table.now args.shelf.now c.lengths_right.ensures c.if-not-lengths_right.true) (λ e. absurd (omega (arith, e)))

pub unwrap-desk-requires : goal.unwrap-desk-requires
unwrap-desk-requires c =
    let args = c.args in
    let z = way_lengths true false args.desk.now args.table.now args.shelf.now c.lengths_right.ensures c.if-not-lengths_right.false in
    let e = z.desk in
    search rules

pub open-requires : goal.open-requires
open-requires c =
    let args = c.args in
    let z = way_lengths true false args.desk.now args.table.now args.shelf.now c.lengths_right.ensures c.if-not-lengths_right.false in
    (omega (arith, z.slots), omega (arith, z.entries))

pub returns : goal.returns
unfolding own_right looks_at_desk
returns c =
    let args = c.args in
    let same = (rw c.unwrap-desk.ensures at c.as_mut_array.ensures.cases).same in
    let through = let_in (Call.opening args.n) (way_blind true false args.desk.now args.table.now args.shelf.now c.lengths_right.ensures c.if-not-lengths_right.false refl) refl (λ j. search rules) (λ j. search rules) (λ j. search rules) in
    by_rule through (search rules) (search rules) (search rules) (λ j. search rules) (λ j. search rules) (λ j. search rules) (rw same at c.«open».ensures)
