use native.Mathlib.Omega.{arith}
use Rattle.std.proofs.Common.{rules}
use Rattle.rules.specs.Answers.{says}
use Rattle.begins.proofs.Begins.{begins}
use Rattle.begins.proofs.begin.Goals as goal

pub returns : goal.returns
unfolding says
returns c =
    let free = c.free_position-free in
    let ok = c.ok_or in
    let branch = c.branch-p in
    let p = c.in_ok-p in
    let last = c.last_ticket-last in
    let eq = c.eq in
    let if1 = c.if-eq in
    let m = c.masks_at-m in
    let ticket = c.give_ticket-ticket in
    let seat = c.seat in
    λ t s. begins c.args.desk.now t s (search rules) (search rules) last.ensures (search rules) (search rules) (λ i. omega arith) c.requires m.ensures ticket.ensures.0 ticket.ensures.1 seat.ensures
