-- Slots as a search tests them, and what it says.
use mathlib.Core.Path.{◌≡◌, refl, sym, ap}
use mathlib.Core.Bool.{Bool, true, false, ◌||◌, false≢true}
use mathlib.Core.List.{List}
use Prim.Native.Nat.{ℕ, ◌*◌, ◌/◌, ◌<◌}
use lib.Dec.{eqb}
use lib.ListN.{length}
use Rattle.std.specs.Prelude.{Option, Some, None, is_some}
use Rattle.rules.specs.declared.SlotNumber.{SlotNumber}
use Rattle.rules.specs.Bytes.{u32_at}
use Rattle.rules.specs.Calls.{first, in_use}
use Rattle.rules.specs.Memory.{slot_at, slots_of}
use Rattle.rules.proofs.First.{first-same}
use Rattle.joins.specs.Search.{bears}
use Rattle.joins.proofs.Slots.{at}
use Rattle.search.specs.Passed.{bears_either, used_at, Finds}

-- ---- slot i of a buffer

module _ (l : List ℕ) (i : ℕ) (h : i < length l / 64) where
  pub either_is : (k m : ℕ) → bears_either (slots_of l) k m i ≡ eqb (u32_at l (i * 64)) k || eqb (u32_at l (i * 64)) m
  either_is k m = rw (at l i h) refl

  pub used_is : in_use (slot_at l i) ≡ used_at (slots_of l) i
  used_is = ap in_use (sym (at l i h))

-- one of two equal numbers
pub same_number : (l : List ℕ) (k from n : ℕ) → first (bears_either (slots_of l) k k) from n ≡ first (bears (slots_of l) k) from n
same_number l k from n = first-same (bears_either (slots_of l) k k) (bears (slots_of l) k) from n (λ j lo hi. same (bears (slots_of l) k j))
  where
    same : (b : Bool) → b || b ≡ b
    same true = refl
    same false = refl

-- what a search says, by whether it found a slot
pub is_found : (r : Option SlotNumber) (x end : ℕ) → is_some r ≡ true → Finds r x end → x < end
is_found None x end e f = absurd (false≢true e)
is_found (Some i) x end e f = f.1

pub is_not : (r : Option SlotNumber) (x end : ℕ) → is_some r ≡ false → Finds r x end → x ≡ end
is_not None x end e f = f
is_not (Some i) x end e f = absurd (false≢true (sym e))
