-- The store of document 01 but for one fault: a change shelves nothing once the store, or the record that it changes, has an entry in use.
use Rattle.std.specs.Prelude.{Bool, true, ◌&&◌, List, ℕ, zero, suc, eqb}
use Rattle.std.proofs.Math.Option.{Option, none, some}
use Rattle.demands.specs.Machine.{Machine}
use Rattle.rules.specs.Calls.{in_use, bearing, changed_by, count}
use Rattle.rules.specs.Masks.{walk_ended}
use Rattle.rules.specs.Memory.{Slot, Store}
use Rattle.rules.specs.Refusals.{Change, refusals, changes_to}
use Rattle.wrong.specs.Ways.{Ways, ways, begun, itself, called_by}

-- the change, as if nobody awaited the version
abbrev pub unshelved : Store → ℕ → Option (List ℕ) → Store
unshelved S k b = changed_by true S (bearing S.table k) b

-- the entries that keep a change of record k from shelving: any in use, or the record's own
abbrev pub of_store : ℕ → Slot → Bool
of_store k s = in_use s

abbrev pub of_record : ℕ → Slot → Bool
of_record k s = in_use s && eqb s.number k

-- while there are none, as document 01 has it
abbrev pub at_first : ℕ → Store → Store → Store
at_first zero X Y = X
at_first (suc n) X Y = Y

module _ (entries : ℕ → Slot → Bool) where
  unfoldable pub shelves_first : Store → Change → Store
  shelves_first S (Change.insert k b) = changes_to S (Change.insert k b)
  shelves_first S (Change.modify k b) = at_first (count (entries k) S.shelf) (changes_to S (Change.modify k b)) (unshelved S k (some b))
  shelves_first S (Change.delete k) = at_first (count (entries k) S.shelf) (changes_to S (Change.delete k)) (unshelved S k none)

  abbrev pub shelving : Ways
  shelving = ways refusals shelves_first begun itself walk_ended

  abbrev pub first_change_only : Machine
  first_change_only = called_by shelving
