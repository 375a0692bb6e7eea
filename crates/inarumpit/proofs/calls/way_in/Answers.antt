use native.Mathlib.Omega.{arith}
use mathlib.Core.Bool.{true}
use mathlib.Core.Path.{refl}
use Rattle.std.proofs.Common.{rules}
use Rattle.rules.specs.Answers.{number_of}
use Rattle.inarumpit.proofs.Replies.{way_wrong, way_lengths, way_unsound, way_open}
use Rattle.inarumpit.proofs.calls.way_in.Goals as goal

pub returns-then-not-lengths_right : goal.returns-then-not-lengths_right
unfolding number_of
returns-then-not-lengths_right c =
    let args = c.args in
    way_wrong true true args.desk.now args.table.now args.shelf.now c.lengths_right.ensures c.if-not-lengths_right.true

pub unwrap-whole-requires : goal.unwrap-whole-requires
unwrap-whole-requires c =
    let args = c.args in
    let z = way_lengths true true args.desk.now args.table.now args.shelf.now c.lengths_right.ensures c.if-not-lengths_right.false in
    let e = z.desk in
    search rules

pub is_sound-requires : goal.is_sound-requires
is_sound-requires c =
    let args = c.args in
    let z = way_lengths true true args.desk.now args.table.now args.shelf.now c.lengths_right.ensures c.if-not-lengths_right.false in
    omega (arith, z.slots, z.entries)

pub returns-then-not-is_sound : goal.returns-then-not-is_sound
unfolding number_of
returns-then-not-is_sound c =
    let args = c.args in
    let same = (rw c.unwrap-whole.ensures at c.as_array.ensures.cases).same in
    way_unsound true true args.desk.now args.table.now args.shelf.now c.lengths_right.ensures c.if-not-lengths_right.false refl (rw same at c.is_sound.ensures) c.if-not-is_sound.true

pub returns : goal.returns
returns c =
    let args = c.args in
    let same = (rw c.unwrap-whole.ensures at c.as_array.ensures.cases).same in
    (same, way_open true true args.desk.now args.table.now args.shelf.now c.lengths_right.ensures c.if-not-lengths_right.false refl (rw same at c.is_sound.ensures) c.if-not-is_sound.false)
