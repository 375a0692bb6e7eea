use mathlib.Core.Path.{ap, ◌∙◌}
use native.Mathlib.Omega.{arith}
use Rattle.masks.specs.Held.{held}
use Rattle.rules.specs.Masks.{m_of}
use Rattle.shelving.proofs.Keeps.{keep-unawaited, keep_no_room, keep_shelved}
use Rattle.shelving.proofs.keep.Goals as goal

pub returns-then-m : goal.returns-then-m
returns-then-m c =
    keep-unawaited (held c.args.masks) c.args.table.now c.args.shelf.now c.args.i.0 (c.m_of-m.ensures ∙ ap (m_of (held c.args.masks)) c.mask_at.ensures) c.if-m.true

pub returns-in_default : goal.returns-in_default
returns-in_default c =
    let none = c.in_default in
    keep_no_room (held c.args.masks) c.args.table.now c.args.shelf.now c.args.i.0 (c.m_of-m.ensures ∙ ap (m_of (held c.args.masks)) c.mask_at.ensures) c.if-m.false none.ensures

pub returns : goal.returns
returns c =
    let some = c.in-Some in
    let f = some.ensures in
    keep_shelved (held c.args.masks) c.args.table.now c.args.shelf.now c.args.i.0 (c.m_of-m.ensures ∙ ap (m_of (held c.args.masks)) c.mask_at.ensures) c.if-m.false f.0 (omega (arith, f)) c.shelve.ensures
