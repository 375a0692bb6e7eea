use mathlib.Core.Path.{sym}
use Rattle.search.proofs.Passing.{either_is}
use Rattle.search.proofs.bears_either.Goals as goal

pub returns : goal.returns
returns c =
    rw (c.eq.ensures, c.eq-2.ensures, c.number_at-number.ensures) (sym (either_is c.args.slots.now c.args.i c.requires c.args.k.0 c.args.l.0))
