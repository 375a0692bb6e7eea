use native.Mathlib.Omega.{arith}
use Rattle.rules.specs.Answers.{draw_of}
use Rattle.running.proofs.Scan.{scan_fits}
use Rattle.draws.proofs.Nexts.{can_hand_out, can_move_on, can_finish, nexts_record, nexts_spent, nexts_end}
use Rattle.draws.proofs.go_on.Goals as goal

pub seek-walked-requires : goal.seek-walked-requires
seek-walked-requires c =
    let args = c.args in
    (scan_fits args.desk.now args.table.now args.shelf.now c.requires.0.2 c.requires.1 c.card_at-card.ensures, omega (arith, c.requires.0.1))

pub hand_out-requires : goal.hand_out-requires
hand_out-requires c =
    let args = c.args in
    can_hand_out args.desk.now args.table.now args.shelf.now args.budget args.out.now c.requires.0 c.requires.1 c.card_at-card.ensures c.masks_at-masks.ensures c.seek-walked.ensures c.in-Record.is

pub move_on-requires : goal.move_on-requires
move_on-requires c =
    let args = c.args in
    can_move_on args.desk.now args.table.now args.shelf.now args.budget args.out.now c.requires.0 c.requires.1 c.card_at-card.ensures c.masks_at-masks.ensures c.seek-walked.ensures c.in-Spent.is

pub finish-requires : goal.finish-requires
finish-requires c =
    let args = c.args in
    can_finish args.desk.now args.table.now args.shelf.now args.budget args.out.now c.requires.0 c.requires.1 c.card_at-card.ensures c.masks_at-masks.ensures c.seek-walked.ensures c.in-End.is

pub returns-in-Record : goal.returns-in-Record
unfolding draw_of
returns-in-Record c =
    let args = c.args in
    let fits = scan_fits args.desk.now args.table.now args.shelf.now c.requires.0.2 c.requires.1 c.card_at-card.ensures in
    nexts_record args.desk.now args.table.now args.shelf.now args.budget args.out.now c.requires.1.0 c.card_at-card.ensures c.masks_at-masks.ensures fits c.seek-walked.ensures c.in-Record.is _ _ _ c.hand_out.ensures

pub returns-in-Spent : goal.returns-in-Spent
unfolding draw_of
returns-in-Spent c =
    let args = c.args in
    let fits = scan_fits args.desk.now args.table.now args.shelf.now c.requires.0.2 c.requires.1 c.card_at-card.ensures in
    nexts_spent args.desk.now args.table.now args.shelf.now args.budget args.out.now c.requires.1.0 c.card_at-card.ensures c.masks_at-masks.ensures fits c.seek-walked.ensures c.in-Spent.is _ (c.move_on.ensures args.shelf.now)

pub returns-in-End : goal.returns-in-End
unfolding draw_of
returns-in-End c =
    let args = c.args in
    let fits = scan_fits args.desk.now args.table.now args.shelf.now c.requires.0.2 c.requires.1 c.card_at-card.ensures in
    nexts_end args.desk.now args.table.now args.shelf.now args.budget args.out.now c.requires.1.0 c.card_at-card.ensures c.masks_at-masks.ensures fits c.seek-walked.ensures c.in-End.is _ (c.finish.ensures args.shelf.now)
