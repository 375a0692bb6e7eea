-- The store that the desk's bytes spell after a scan has moved, handed out or finished.
use mathlib.Core.Path.{◌≡◌, refl, sym, ap, ◌∙◌}
use mathlib.Core.Bool.{true, false}
use mathlib.Core.List.{List}
use Prim.Native.Nat.{ℕ, suc, ◌+◌, ◌*◌, ◌-◌, ◌/◌, ◌≤◌, ◌<◌}
use native.Mathlib.Numerals.{add-one}
use native.Mathlib.Omega.{arith}
use lib.Dec.{ltb}
use lib.ListN.{length, set}
use lib.Seq.{set-set}
use borrow.Author.Tests.{lt-ltb, le-ltb}
use Rattle.rules.specs.declared.Card.{Card}
use Rattle.rules.specs.Calls.{slot_in, card_of}
use Rattle.rules.specs.Masks.{Masks, ended}
use Rattle.rules.specs.Memory.{Slot, card, idle, store, T, slots_of, card_at, masks_of, desk_of, store_of, masks_bytes, card_bytes}
use Rattle.rules.specs.Next.{turned, flipped, taken, finish}
use Rattle.rules.proofs.Each.{at_each}
use Rattle.layout.specs.Puts.{put}
use Rattle.joins.specs.Walks.{crossed, moved_to, took_by, took, here_by, here}
use Rattle.joins.proofs.Desks.{Small64, Small32, desk-put}
use Rattle.joins.proofs.Slots.{slots-there}
use Rattle.settle.proofs.HandOut.{handed_out}

-- the card of a position, and the slots that lent bytes spell
pub card-there : (d t s : List ℕ) (p : ℕ) → p < 64 → card_of (store_of d t s) p ≡ card_at d p
unfolding store_of desk_of
card-there d t s p h = at_each (card_at d) 64 p idle h

desk-there : (d t s : List ℕ) → (store_of d t s).desk ≡ desk_of d
unfolding store_of
desk-there d t s = refl

pub table-there : (d t s : List ℕ) → (store_of d t s).table ≡ slots_of t
unfolding store_of
table-there d t s = refl

pub shelf-there : (d t s : List ℕ) → (store_of d t s).shelf ≡ slots_of s
unfolding store_of
shelf-there d t s = refl

read-there : (d t s : List ℕ) → store_of d t s ≡ store (desk_of d) (slots_of t) (slots_of s)
unfolding store_of
read-there d t s = refl

masks-there : (d : List ℕ) → (desk_of d).masks ≡ masks_of d
unfolding desk_of
masks-there d = refl

-- ---- the scan at p has moved to place q with h handed, past a table of n slots: its masks and its card

abbrev moved_masks : List ℕ → ℕ → ℕ → ℕ → Masks
moved_masks d n p q = turned (crossed (card_at d p).place n q) (masks_of d) p

abbrev moved_card : List ℕ → ℕ → ℕ → ℕ → Card
moved_card d p q h = card (card_at d p).ticket.0 q h (card_at d p).rest

module _ (d t s : List ℕ) (p q h : ℕ) (nd : length d ≡ 1088) (below : p < 64) where
  -- over any table and shelf
  pub moved_spelt : (tb sf : List Slot) → Small64 (moved_masks d (length t / 64) p q) → Small32 (moved_card d p q h)
      → moved_to (store_of d t s) p q h tb sf ≡ store (desk_of (put (put d 16 (masks_bytes (moved_masks d (length t / 64) p q))) (64 + p * 16) (card_bytes (moved_card d p q h)))) tb sf
  unfolding moved_to
  moved_spelt tb sf sm sc =
      rw (desk-put d (moved_masks d (length t / 64) p q) p (moved_card d p q h) nd sm sc below, card-there d t s p below, slots-there d t s, desk-there d t s, masks-there d) refl

  -- the position freed
  pub finished_spelt : Small64 (ended (moved_masks d (length t / 64) p q) p)
      → finish (moved_to (store_of d t s) p q h (slots_of t) (slots_of s)) p ≡ store_of (put (put d 16 (masks_bytes (ended (moved_masks d (length t / 64) p q) p))) (64 + p * 16) (card_bytes idle)) t s
  unfolding finish moved_to
  finished_spelt sm =
      let m : Masks = ended (moved_masks d (length t / 64) p q) p in
      rw (
        read-there (put (put d 16 (masks_bytes m)) (64 + p * 16) (card_bytes idle)) t s,
        desk-put d m p idle nd sm (omega arith, omega arith, omega arith, omega arith) below,
        set-set (store_of d t s).desk.cards p (card (card_of (store_of d t s) p).ticket.0 q h (card_of (store_of d t s) p).rest) idle,
        card-there d t s p below,
        slots-there d t s,
        desk-there d t s,
        masks-there d,
      ) refl

-- ---- one more handed, the version before the place moved to

module _ (d t s : List ℕ) (p : ℕ) (below : p < 64) {c : Card} (ec : c ≡ card_at d p) where
  pub handed_on_lem : (looks : ℕ) → 0 < looks → (d' t' s' : List ℕ) → ((tb sf : List Slot) → store (desk_of d') tb sf ≡ moved_to (store_of d t s) p (c.place + looks) (c.handed + 1) tb sf)
      → moved_to (store_of d t s) p (suc (c.place + looks - 1)) (suc (card_of (store_of d t s) p).handed) (slots_of t') (slots_of s') ≡ took (store_of d t s) p (c.place + looks - 1)
      → store_of d' t' s' ≡ took (store_of d t s) p (c.place + looks - 1)
  handed_on_lem looks some d' t' s' on taken =
      let x : c.place + looks ≡ suc (c.place + looks - 1) = omega arith in
      let y : c.handed + 1 ≡ suc (card_of (store_of d t s) p).handed = add-one c.handed ∙ ap (λ (z : Card). suc z.handed) (ec ∙ sym (card-there d t s p below)) in
      read-there d' t' s'
      ∙ on (slots_of t') (slots_of s')
      ∙ ap (λ (q : ℕ). moved_to (store_of d t s) p q (c.handed + 1) (slots_of t') (slots_of s')) x
      ∙ ap (λ (h : ℕ). moved_to (store_of d t s) p (suc (c.place + looks - 1)) h (slots_of t') (slots_of s')) y
      ∙ taken

-- ---- the version at place q, taken from table or shelf

module _ (d t s : List ℕ) (p q : ℕ) where
  module _ (in_table : q < length t / 64) where
    before_end : ltb q (T (store_of d t s)) ≡ true
    before_end = lt-ltb q (T (store_of d t s)) (rw (slots-there d t s) in_table)

    pub took_table : moved_to (store_of d t s) p (suc q) (suc (card_of (store_of d t s) p).handed) (set (slots_of t) q (flipped (slot_in (slots_of t) q) p)) (slots_of s) ≡ took (store_of d t s) p q
    unfolding took_by
    took_table = rw (before_end, table-there d t s, shelf-there d t s) refl

    pub here_table : here (store_of d t s) q ≡ slot_in (slots_of t) q
    unfolding here_by
    here_table = rw (before_end, table-there d t s) refl

  module _ (on_shelf : length t / 64 ≤ q) where
    past_end : ltb q (T (store_of d t s)) ≡ false
    past_end = le-ltb q (T (store_of d t s)) (rw (slots-there d t s) on_shelf)

    pub took_shelf : moved_to (store_of d t s) p (suc q) (suc (card_of (store_of d t s) p).handed) (slots_of t) (set (slots_of s) (q - length t / 64) (taken (slot_in (slots_of s) (q - length t / 64)) p)) ≡ took (store_of d t s) p q
    unfolding took_by
    took_shelf = rw (past_end, slots-there d t s, table-there d t s, shelf-there d t s) refl

    pub here_shelf : here (store_of d t s) q ≡ slot_in (slots_of s) (q - length t / 64)
    unfolding here_by
    here_shelf = rw (past_end, slots-there d t s, shelf-there d t s) refl

-- with the version in the hand-out buffer
pub ruleset takes = (took_table, here_table, took_shelf, here_shelf, handed_out)
