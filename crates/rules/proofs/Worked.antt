-- P1 to P12, as one statement over one list.
use mathlib.Core.Path.{◌≡◌, refl}
use Rattle.rules.specs.Answers.{number, value, packed}
use Rattle.rules.specs.Bytes.{le, to_le, field, u32_at, u64_at}
use Rattle.rules.specs.Calls.{first, opened, inserted, changed_by, given, count}
use Rattle.rules.specs.Masks.{bit, NOT, from, scan_mask, REMSET_MASK_INS, REMSET_MASK_UPD, LCL_ACTIVE_MASK_UPD, ACTIVE_MASK_UPD, STATUS_MASK_UPD, STATUS_MASK_SCAN_UPD, STABLE_FLIP, cleared, walk_begun, walk_ended, ended, new_status, m_of}
use Rattle.rules.specs.Memory.{each, desk_of, store_of}
use Rattle.rules.specs.Next.{table_look, shelf_look, look_at, finish, walk}
use Rattle.rules.specs.Refusals.{first_of, own_refusals, effect, refused_as, out_of, settled, step}
use Rattle.rules.specs.Worked.{paper, comes_back, handed, in_slot, in_entry, at_position, empty_shelf, one_means_stable, body, A, B, B', B'', C, D, session, seen, run, before, worked, ruled, documented}

-- every figure that document 01 gives is the one that the rules give
pub p1_to_p12 : ruled worked ≡ documented worked
unfolding settled step number value packed le to_le field u32_at u64_at first opened inserted changed_by given count bit NOT from scan_mask REMSET_MASK_INS REMSET_MASK_UPD LCL_ACTIVE_MASK_UPD ACTIVE_MASK_UPD STATUS_MASK_UPD STATUS_MASK_SCAN_UPD STABLE_FLIP cleared walk_begun walk_ended ended new_status m_of each desk_of store_of table_look shelf_look look_at finish walk first_of own_refusals effect refused_as out_of paper comes_back handed in_slot in_entry at_position empty_shelf one_means_stable body A B B' B'' C D session seen run before worked ruled documented
p1_to_p12 = refl
