-- What stands in the lent bytes after every call: document 01's layout, of what the calls and their answers tell and of who stands where.
-- With the masks' own statement it leaves no byte open.
use Rattle.std.specs.Prelude.{◌≡◌, List, ℕ, ◌<◌, length, get_or, replicate}
use Rattle.std.proofs.Math.Option.{Option, none, some}
use Rattle.demands.specs.DemandThree.{Reads}
use Rattle.demands.specs.History.{Scan, History}
use Rattle.rules.specs.Passed.{All}
use Rattle.demands.specs.Lives.{Opening, table_slots, shelf_entries, Accepted, bytes_after, past}
use Rattle.demands.specs.Machine.{Machine, Within}
use Rattle.demands.specs.Placement.{Placing, Places, sitting, places_after}
use Rattle.rules.specs.declared.Card.{Card}
use Rattle.rules.specs.Calls.{slot_in, card_of}
use Rattle.rules.specs.Memory.{card, idle, Store, read}
use Rattle.rules.specs.Refusals.{Call}

-- "ticket (0 means no scan), place, handed, zero"
abbrev pub card_with : Option Scan → Card
card_with none = idle
card_with (some s) = card s.ticket s.looks (length s.handed) 0

-- a store of N positions, T slots and R entries, of a history and its places
pub record Spells (N T R : ℕ) (h : History) (p : Places) (S : Store) : Type 0 where
  -- "At 0 N, 4 T, 8 R, 12 the last ticket given .., 40 to 63 zero. Then 64 cards of 16 bytes"
  pub n : S.desk.n ≡ N
  pub t : S.desk.t ≡ T
  pub r : S.desk.r ≡ R
  pub last : S.desk.last ≡ h.given
  pub zeros : S.desk.zeros ≡ replicate 24 0
  pub cards : (i : ℕ) → i < 64 → card_of S i ≡ card_with (sitting h p i)
  -- each slot and each entry reads as the version that stands there
  pub table : (j : ℕ) → Reads (slot_in S.table j) (get_or p.table j none)
  pub shelf : (k : ℕ) → Reads (slot_in S.shelf k) (get_or p.shelf k none)

-- of every life
unfoldable pub Spelt : Machine → Placing → Type 0
Spelt M P =
    (o : Opening) → Accepted M o → (cs : List Call) → All Within cs
    → Spells o.n (table_slots o) (shelf_entries o) (past M o cs) (places_after M P o cs) (read (bytes_after M o cs))
