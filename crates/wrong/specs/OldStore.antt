-- The store before this one, but for its one fault document 01's: a scan's position is free as soon as its table walk ends. Both cards
-- are kept: a new scan takes the lowest card with no scan, and its position is written in the card's last word.
use Rattle.std.specs.Prelude.{not, ◌∷◌, ℕ, ◌+◌, eqb, set}
use Rattle.demands.specs.Machine.{Machine}
use Rattle.rules.specs.Calls.{first, card_of, free_position}
use Rattle.rules.specs.Masks.{Masks, masks, walk_begun, scan_mask, STABLE_FLIP, ACTIVE_MASK_UPD, LCL_ACTIVE_MASK_UPD}
use Rattle.rules.specs.Memory.{Lent, card, desk, Store, store, read}
use Rattle.rules.specs.Refusals.{Call, Refusals, all_right, own_refusals, changes_to}
use Rattle.wrong.specs.Ways.{ways, called_by}

-- the fault: the active bit is set when the table walk ends
unfoldable pub too_early : Masks → ℕ → Masks
too_early m p = masks (STABLE_FLIP m.stable (scan_mask p)) (ACTIVE_MASK_UPD m.active (scan_mask p)) (LCL_ACTIVE_MASK_UPD m.local (scan_mask p))

-- the scan of card j uses the position in its last word
abbrev pub last_word : Store → ℕ → ℕ
last_word S j = (card_of S j).rest

abbrev pub idle_card : Store → ℕ
idle_card S = first (λ i. eqb (card_of S i).ticket.0 0) 0 64

unfoldable pub carded : Store → Store
carded S =
    store
    (desk S.desk.n S.desk.t S.desk.r (S.desk.last + 1) (walk_begun S.desk.masks (free_position S)) S.desk.zeros
    (set S.desk.cards (idle_card S) (card (S.desk.last + 1) 0 0 (free_position S))))
    S.table S.shelf

-- refused as document 01 has it, but never by 2, as its cards are not document 01's
unfoldable pub never_two : Lent → Call → Refusals
never_two l c = (not (all_right l c), 1) ∷ own_refusals (read l) c

abbrev pub old_store : Machine
old_store = called_by (ways never_two changes_to carded last_word too_early)
