-- P1 to P12 on lent bytes, as one statement over one list.
use mathlib.Core.Path.{◌≡◌, refl}
use Rattle.rules.specs.Answers.{number, value, packed}
use Rattle.rules.specs.Bytes.{le, to_le, field, u32_at, u64_at}
use Rattle.rules.specs.Calls.{first, opened, inserted, changed_by, given, count}
use Rattle.rules.specs.Masks.{bit, NOT, from, scan_mask, REMSET_MASK_INS, REMSET_MASK_UPD, LCL_ACTIVE_MASK_UPD, ACTIVE_MASK_UPD, STATUS_MASK_UPD, STATUS_MASK_SCAN_UPD, STABLE_FLIP, cleared, walk_begun, walk_ended, ended, new_status, m_of}
use Rattle.rules.specs.Memory.{each, desk_of, store_of, joined, desk_bytes, written}
use Rattle.rules.specs.Next.{table_look, shelf_look, look_at, finish, walk}
use Rattle.rules.specs.Refusals.{lengths_right, own_right, first_of, own_refusals, looks_at_desk, refusals, effect, refused_as, out_of, replied, called}
use Rattle.rules.specs.Sound.{all_hold, all_zero, head_rules, card_rules, cards_rules, desk_rules, sound}
use Rattle.rules.specs.Worked.{paper, comes_back, handed, in_slot, in_entry, at_position, empty_shelf, one_means_stable, body, A, B, B', B'', C, D, session, seen, before, ruled, documented}
use Rattle.worked.specs.Worked.{spelt, run, worked}

-- every figure that document 01 gives is the one that the calls give
pub p1_to_p12 : ruled worked ≡ documented worked
unfolding number value packed le to_le field u32_at u64_at first opened inserted changed_by given count bit NOT from scan_mask REMSET_MASK_INS REMSET_MASK_UPD LCL_ACTIVE_MASK_UPD ACTIVE_MASK_UPD STATUS_MASK_UPD STATUS_MASK_SCAN_UPD STABLE_FLIP cleared walk_begun walk_ended ended new_status m_of each desk_of store_of joined desk_bytes written table_look shelf_look look_at finish walk lengths_right own_right first_of own_refusals looks_at_desk refusals effect refused_as out_of replied called all_hold all_zero head_rules card_rules cards_rules desk_rules sound paper comes_back handed in_slot in_entry at_position empty_shelf one_means_stable body A B B' B'' C D session seen before spelt run worked ruled documented
p1_to_p12 = refl
