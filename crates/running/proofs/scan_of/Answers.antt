use Rattle.std.specs.Prelude.{◌≡◌}
use Rattle.std.proofs.Common.{rules}
use Rattle.soundness.proofs.Says.{n_most, high_idle, none_busy}
use Rattle.running.proofs.scan_of.Goals as goal

pub position_of-requires : goal.position_of-requires
position_of-requires c =
    let eq = c.eq in
    let if1 = c.if-eq in
    let some : c.args.ticket.0 ≡ 0 → ⊥ = search rules in
    let d = c.args.desk.now in
    let t = c.requires.1.0 in
    let s = c.requires.1.1 in
    let ok = c.requires.1.2 in
    (n_most d t s ok, λ i lo hi. high_idle d t s ok i c.args.ticket.0 some lo hi, none_busy d t s ok c.args.ticket.0 some)
