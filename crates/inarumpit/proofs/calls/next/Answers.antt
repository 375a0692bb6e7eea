use native.Mathlib.Omega.{arith}
use mathlib.Core.Path.{refl}
use lib.ListN.{length}
use borrow.Author.Tests.{eq-eqb, ne_eqb}
use Rattle.std.proofs.Common.{rules}
use Rattle.rules.specs.Answers.{next_tells, says, number_of}
use Rattle.rules.specs.Refusals.{Call, own_right, looks_at_desk, refused_as, out_of}
use Rattle.rules.proofs.Refused.{refused-on}
use Rattle.inarumpit.proofs.Replies.{by_lengths, by_sound, by_own_length, by_way, let_through, by_rule}
use Rattle.inarumpit.proofs.calls.next.Goals as goal

pub returns-in_default : goal.returns-in_default
unfolding says number_of own_right looks_at_desk refused_as out_of
returns-in_default c =
    let none = c.in_default in
    by_own_length (Call.next c.args.ticket.0 c.args.budget c.args.out.now) (ne_eqb (length c.args.out.now) 56 (λ e. omega (arith, none.ensures.cases, e)))

pub returns-in_err-way_in : goal.returns-in_err-way_in
unfolding own_right looks_at_desk refused_as out_of
returns-in_err-way_in c =
    let some = c.in-Some in
    rw (refused-on next_tells c.from_residual.result c.in_err-way_in.field-0.0 c.from_residual.ensures.1, some.ensures.cases.same)
    (by_way (Call.next c.args.ticket.0 c.args.budget c.args.out.now) (eq-eqb (length c.args.out.now) 56 (search rules)) refl c.in_err-way_in.field-0.0 c.in_err-way_in.ensures)

pub unwrap-desk-requires : goal.unwrap-desk-requires
unfolding own_right looks_at_desk
unwrap-desk-requires c =
    let some = c.in-Some in
    let through = let_through (Call.next c.args.ticket.0 c.args.budget c.args.out.now) (eq-eqb (length c.args.out.now) 56 (search rules)) refl c.in_ok-way_in.ensures.1 (λ j. search rules) (λ j. search rules) (λ j. search rules) in
    let e = (by_lengths through).desk in
    search rules

pub next-requires : goal.next-requires
unfolding own_right looks_at_desk
next-requires c =
    let some = c.in-Some in
    let same = (rw c.unwrap-desk.ensures at c.as_mut_array-2.ensures.cases).same in
    let through = let_through (Call.next c.args.ticket.0 c.args.budget c.args.out.now) (eq-eqb (length c.args.out.now) 56 (search rules)) refl c.in_ok-way_in.ensures.1 (λ j. search rules) (λ j. search rules) (λ j. search rules) in
    let z = by_lengths through in
    rw same (z.desk, omega (arith, z.slots, z.entries), by_sound through refl)

pub returns : goal.returns
unfolding own_right looks_at_desk
returns c =
    let some = c.in-Some in
    let same = (rw c.unwrap-desk.ensures at c.as_mut_array-2.ensures.cases).same in
    let through = let_through (Call.next c.args.ticket.0 c.args.budget c.args.out.now) (eq-eqb (length c.args.out.now) 56 (search rules)) refl c.in_ok-way_in.ensures.1 (λ j. search rules) (λ j. search rules) (λ j. search rules) in
    by_rule through (search rules) (search rules) (search rules) (λ j. search rules) (λ j. search rules) (λ j. search rules) (rw (same, some.ensures.cases.same) at c.next.ensures)
