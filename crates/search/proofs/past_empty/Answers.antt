use native.Mathlib.Omega.{arith}
use Rattle.std.proofs.Common.{rules}
use Rattle.search.proofs.Passing.{used_is}
use Rattle.search.proofs.past_empty.Goals as goal

pub returns : goal.returns
returns c =
    let from = c.from in
    let stop = c.from-2 in
    let past = c.past in (
      search rules,
      search rules,
      λ j lo hi.
          let empty = past.ensures.2 j (search rules) hi in
          let used = used_is c.args.slots.now j (omega (arith, c.requires, stop.ensures, past.ensures.1)) in
          search rules,
    )
