use Prim.Native.Nat.{◌+◌, ◌*◌}
use native.Mathlib.Omega.{arith}
use Rattle.joins.proofs.Desks.{card_puts}
use Rattle.desk.proofs.write.put_card.Goals as goal

pub returns : goal.returns
returns c = (
  c.start-at.ensures.1,
  rw (c.put_at-4.ensures, c.put_at-3.ensures, c.put_at-2.ensures, c.put_at.ensures, c.start-at.ensures.0, c.from.ensures)
      (card_puts c.args.desk.now (64 + c.args.p * 16) c.args.c (omega (arith, c.start-at.ensures.1))),
)
