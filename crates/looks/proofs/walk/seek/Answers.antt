use native.Mathlib.Omega.{arith}
use Rattle.looks.proofs.Seek.{seek_looks}
use Rattle.looks.proofs.walk.seek.Goals as goal

pub overflow_add-result : goal.overflow_add-result
overflow_add-result c =
    let args = c.args in
    let there = rw (c.in_table.ensures.0, c.in_table.ensures.1) at c.walk-there.ensures in
    let then = rw (c.on_shelf-on_shelf.ensures.0, c.on_shelf-on_shelf.ensures.1) at c.walk-then.ensures in
    omega (arith, c.requires.1, seek_looks args.stable args.p args.table.now args.shelf.now args.place args.budget c.requires.0 (omega (arith, c.slot_count-slots.ensures, c.if-place-slots.false)) there then)
