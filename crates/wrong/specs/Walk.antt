-- Next, look by look, as document 01 has it, but for the position that the scan of a card uses and what a table walk's end does to the
-- masks: each store has its own.
use Rattle.std.specs.Prelude.{Bool, true, false, List, ℕ, zero, suc, ◌-◌, ltb, eqb, set}
use Rattle.std.proofs.Math.Option.{Option, none, some}
use Rattle.rules.specs.Answers.{Answer, Draw}
use Rattle.rules.specs.Calls.{slot_in, card_of}
use Rattle.rules.specs.Masks.{Masks, ended}
use Rattle.rules.specs.Memory.{Slot, idle, Store, store, T, version}
use Rattle.rules.specs.Next.{Told, told, desk_with, moved, in_table, flipped, on_shelf, taken, at_end}

module _ (position : Store → ℕ → ℕ) (ends : Masks → ℕ → Masks) where
  abbrev pub turned : Bool → Masks → ℕ → Masks
  turned true m p = ends m p
  turned false m p = m

  -- the scan of card j looks at slot i
  unfoldable pub table_look : Bool → Store → ℕ → ℕ → Store × Option Slot
  table_look true S j i = (
    store (desk_with S.desk (turned (eqb (suc i) (T S)) S.desk.masks (position S j)) j (moved (card_of S j) true)) (set S.table i (flipped (slot_in S.table i) (position S j))) S.shelf,
    some (slot_in S.table i),
  )
  table_look false S j i = (store (desk_with S.desk (turned (eqb (suc i) (T S)) S.desk.masks (position S j)) j (moved (card_of S j) false)) S.table S.shelf, none)

  -- and at entry e
  unfoldable pub shelf_look : Bool → Store → ℕ → ℕ → Store × Option Slot
  shelf_look true S j e =
      (store (desk_with S.desk S.desk.masks j (moved (card_of S j) true)) S.table (set S.shelf e (taken (slot_in S.shelf e) (position S j))), some (slot_in S.shelf e))
  shelf_look false S j e = (store (desk_with S.desk S.desk.masks j (moved (card_of S j) false)) S.table S.shelf, none)

  unfoldable pub look_at : Bool → Store → ℕ → ℕ → Store × Option Slot
  look_at true S j q = table_look (in_table S (position S j) q) S j q
  look_at false S j q = shelf_look (on_shelf S (position S j) (q - T S)) S j (q - T S)

  abbrev pub look : Store → ℕ → Store × Option Slot
  look S j = look_at (ltb (card_of S j).place (T S)) S j (card_of S j).place

  unfoldable pub finish : Store → ℕ → Store
  finish S j = store (desk_with S.desk (ended S.desk.masks (position S j)) j idle) S.table S.shelf

  unfoldable pub walk : Store → ℕ → ℕ → ℕ → List ℕ → Told
  walk S j zero l o =
      elim (at_end S j) [ true ↦ told (Answer.drew (Draw.finished l zero (card_of S j).handed)) (finish S j) o | false ↦ told (Answer.drew (Draw.paused l)) S o ]
  walk S j (suc b) l o =
      elim (at_end S j) [
        | true ↦ told (Answer.drew (Draw.finished l (suc b) (card_of S j).handed)) (finish S j) o
        | false ↦ elim (look S j).1 [ none ↦ walk (look S j).0 j b (suc l) o | some v ↦ told (Answer.drew (Draw.in_hand (suc l) b)) (look S j).0 (version v) ]
      ]
