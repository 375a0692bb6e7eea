-- Demand 3: "In such a store, after every call, refused ones included, the shelf of old versions holds one entry for each version that has
-- left the table and that some running scan began with and has not yet handed out. It holds nothing more, and one entry serves all scans
-- that wait for it."
use Rattle.std.specs.Prelude.{◌≡◌, List, ℕ, ◌*◌, ◌≤◌, ◌<◌, length, get_or}
use Rattle.std.proofs.Math.Option.{Option, none, some}
use Rattle.demands.specs.History.{Version, needed}
use Rattle.rules.specs.Passed.{All}
use Rattle.demands.specs.Lists.{Permutation, standing}
use Rattle.demands.specs.Lives.{Opening, table_slots, shelf_entries, Accepted, bytes_after, past}
use Rattle.demands.specs.Machine.{Machine, Within}
use Rattle.rules.specs.Answers.{Answer}
use Rattle.rules.specs.Calls.{slot_in}
use Rattle.rules.specs.Memory.{Slot, free, slots_of}
use Rattle.rules.specs.Refusals.{Call}

-- a slot or an entry not in use is 64 zero bytes; one in use reads as the version that stands there
abbrev pub Reads : Slot → Option Version → Type 0
Reads s none = s ≡ free
Reads s (some v) = (s.number ≡ v.number) × (s.body ≡ v.body)

-- the places of a buffer and the versions correspond one to one
pub record Holds (buffer : List ℕ) (versions : List Version) : Type 0 where
  pub which : List (Option Version)
  pub all : length which ≡ length (slots_of buffer)
  pub each : Permutation (standing which) versions
  pub spelt : (i : ℕ) → Reads (slot_in (slots_of buffer) i) (get_or which i none)

pub record Demand3 (M : Machine) : Type 0 where
  pub shelf : (o : Opening) → Accepted M o → (cs : List Call) → All Within cs → Holds (bytes_after M o cs).shelf (needed (past M o cs))
  -- the table likewise
  pub table : (o : Opening) → Accepted M o → (cs : List Call) → All Within cs → Holds (bytes_after M o cs).table (past M o cs).live

-- "So a shelf with at least as many entries as scan positions times table slots never turns a change away for want of room."
unfoldable pub AlwaysRoom : Machine → Type 0
AlwaysRoom M =
    (o : Opening) → o.n * table_slots o ≤ shelf_entries o → (cs : List Call) → All Within cs → (c : Call) → Within c
    → (M (bytes_after M o cs) c).answer ≡ Answer.refused 8 → ⊥

-- and no smaller shelf always has room: some calls lead to a change that is turned away by 8
unfoldable pub NoSmaller : Machine → Type 0
NoSmaller M =
    (o : Opening) → shelf_entries o < o.n * table_slots o
    → (cs : List Call) × All Within cs × ((c : Call) × Within c × ((M (bytes_after M o cs) c).answer ≡ Answer.refused 8))
