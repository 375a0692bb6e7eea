use native.Mathlib.Omega.{arith}
use Rattle.std.proofs.Common.{rules}
use Rattle.rules.specs.Answers.{says, number_of}
use Rattle.rules.specs.Memory.{store_of}
use Rattle.joins.proofs.Cases.{open_range}
use Rattle.opening.proofs.Opens.{opens}
use Rattle.opening.proofs.open.Goals as goal

pub returns-then-not-is_n : goal.returns-then-not-is_n
unfolding says number_of
returns-then-not-is_n c =
    let args = c.args in
    open_range (store_of args.desk.now args.table.now args.shelf.now) args.n (search rules)

pub returns : goal.returns
unfolding says
returns c =
    let args = c.args in
    opens args.desk.now args.table.now args.shelf.now args.n (omega arith) (omega arith) c.requires.0 c.requires.1 (search rules) c.slot_count-t.ensures c.slot_count-r.ensures c.put_fresh.ensures (c.fill.ensures.after (λ y e. e)) (c.fill-2.ensures.after (λ y e. e))
