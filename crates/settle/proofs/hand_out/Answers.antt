use Rattle.settle.proofs.Moves.{handed_on_lem}
use Rattle.settle.proofs.hand_out.Goals as goal

pub returns : goal.returns
returns c =
    let d = c.args.desk.now in
    let t = c.args.table.now in
    let s = c.args.shelf.now in
    let scan = c.args.scan in
    let taken = c.take.ensures d in
    (handed_on_lem d t s scan.position c.go_on.ensures.0 c.requires.0 c.args.looks c.requires.4 _ _ _ (c.go_on.ensures.1 s) taken.0, taken.1)
