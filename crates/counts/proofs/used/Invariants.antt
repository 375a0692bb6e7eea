-- What is counted and what is still to be counted is the whole.
use mathlib.Core.Path.{◌≡◌}
use Prim.Native.Nat.{◌≤◌, ◌-◌, ◌/◌, ◌+◌}
use lib.ListN.{length}
use Rattle.rules.specs.Calls.{count, in_use}
use Rattle.rules.specs.Memory.{each, slot_at, slots_of}
use Rattle.counts.proofs.used.Given as goal

abbrev pub invariant-loop-i : goal.invariant-loop-i
invariant-loop-i l = (l.n ≤ l.i) × (l.n + count (in_use) (each (slot_at l.slots) l.i (length l.slots / 64 - l.i)) ≡ count (in_use) (slots_of l.slots))
