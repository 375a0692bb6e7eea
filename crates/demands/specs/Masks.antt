-- "The masks move as in section III-A of the 2016 paper on Virtual Lightweight Snapshots by Chirigati and others": what every bit of every
-- mask says, after every call, of the scan at its position and of the version that it stands with.
use Rattle.std.specs.Prelude.{◌≡◌, Bool, true, false, not, ◌&&◌, List, [], ◌∷◌, ℕ, ◌+◌, ◌%◌, ◌<◌, ltb, get_or}
use Rattle.std.proofs.Math.Option.{Option, none, some}
use Rattle.std.specs.Int.Bits.{bit_xor}
use Rattle.demands.specs.History.{Version, Scan, awaits}
use Rattle.rules.specs.Passed.{All}
use Rattle.demands.specs.Lives.{Opening, table_slots, Accepted, bytes_after}
use Rattle.demands.specs.Machine.{Machine, Within}
use Rattle.demands.specs.Placement.{Placing, places_after, stands_at}
use Rattle.rules.specs.Calls.{slot_in}
use Rattle.rules.specs.Masks.{Masks, bit}
use Rattle.rules.specs.Memory.{read}
use Rattle.rules.specs.Refusals.{Call}

abbrev pub one_if : Bool → ℕ
one_if true = 1
one_if false = 0

abbrev pub none_runs : Option Scan → Bool
none_runs none = true
none_runs (some s) = false

-- a scan in its table walk, of T slots
abbrev pub walks : ℕ → Option Scan → Bool
walks T none = false
walks T (some s) = ltb s.looks T

abbrev pub waits_for : Option Scan → Version → Bool
waits_for none v = false
waits_for (some s) v = awaits s v

module _ (M : Machine) (o : Opening) where
  -- the masks of the desk, of a slot and of an entry
  abbrev pub masks_after : List Call → Masks
  masks_after cs = (read (bytes_after M o cs)).desk.masks

  abbrev pub status_after : List Call → ℕ → ℕ
  status_after cs j = (slot_in (read (bytes_after M o cs)).table j).mask

  abbrev pub remset_after : List Call → ℕ → ℕ
  remset_after cs e = (slot_in (read (bytes_after M o cs)).shelf e).mask

  module _ (P : Placing) where
    -- position i is in a table walk
    abbrev pub walking : List Call → ℕ → Bool
    walking cs i = walks (table_slots o) (stands_at M P o cs i)

    -- the scan at position i awaits the version
    abbrev pub waits : List Call → ℕ → Version → Bool
    waits cs i v = waits_for (stands_at M P o cs i) v

    -- the table walks that have ended at position i since the opening
    unfoldable pub walks_ended : List Call → ℕ → ℕ
    walks_ended [] i = 0
    walks_ended (c ∷ cs) i = walks_ended cs i + one_if (walking cs i && not (walking (c ∷ cs) i))

    -- the version in slot j, in entry e
    abbrev pub in_slot : List Call → ℕ → Option Version
    in_slot cs j = get_or (places_after M P o cs).table j none

    abbrev pub in_entry : List Call → ℕ → Option Version
    in_entry cs e = get_or (places_after M P o cs).shelf e none

    -- after these calls
    pub record MasksMean (cs : List Call) : Type 0 where
      -- active: no scan is at i
      pub active : (i : ℕ) → i < 64 → bit (masks_after cs).active i ≡ one_if (none_runs (stands_at M P o cs i))
      -- local active: no scan is in its table walk at i
      pub local : (i : ℕ) → i < 64 → bit (masks_after cs).local i ≡ one_if (not (walking cs i))
      -- stable: the parity of the table walks ended at i
      pub stable : (i : ℕ) → i < 64 → bit (masks_after cs).stable i ≡ walks_ended cs i % 2
      -- status: differs from stable where a scan in its table walk does not await the version
      pub status : (j : ℕ) (v : Version) → in_slot cs j ≡ some v → (i : ℕ) → i < 64
          → bit (bit_xor (masks_after cs).stable (status_after cs j)) i ≡ one_if (walking cs i && not (waits cs i v))
      -- remset status: 0 where a scan awaits the version
      pub remset : (e : ℕ) (v : Version) → in_entry cs e ≡ some v → (i : ℕ) → i < 64 → bit (remset_after cs e) i ≡ one_if (not (waits cs i v))

-- of every life
unfoldable pub MasksMove : Machine → Placing → Type 0
MasksMove M P = (o : Opening) → Accepted M o → (cs : List Call) → All Within cs → MasksMean M o P cs
