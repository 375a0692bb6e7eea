use native.Mathlib.Nat.{add-zero}
use Rattle.rules.specs.Memory.{slots_of, store_of}
use Rattle.settle.proofs.move_on.Goals as goal

pub returns : goal.returns
unfolding store_of
returns c =
    λ s. rw (add-zero c.args.scan.card.handed) at (c.go_on.ensures.1 s (slots_of c.args.table.now) (slots_of s))
