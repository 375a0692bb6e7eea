-- The ways out of a walk.
use mathlib.Core.Path.{◌≡◌, refl, sym, ap, ◌∙◌}
use mathlib.Core.Bool.{Bool, true, false, ◌&&◌}
use mathlib.Core.List.{List}
use Prim.Native.Nat.{ℕ, suc, ◌+◌, ◌*◌, ◌-◌, ◌/◌, ◌≤◌, ◌<◌, min}
use native.Mathlib.Numerals.{add-one}
use native.Mathlib.Omega.{arith}
use native.Mathlib.Decide.{dec_lt}
use lib.Bits.{bit_xor}
use lib.ListN.{length}
use borrow.Author.Tests.{lt-ltb, le-ltb}
use Rattle.std.proofs.Math.Bool.{and-false}
use Rattle.rules.specs.Bytes.{u64_at}
use Rattle.rules.specs.Calls.{slot_in, in_use}
use Rattle.rules.specs.Masks.{off}
use Rattle.rules.specs.Memory.{slot_at, slots_of}
use Rattle.rules.proofs.First.{first-hit, first_end, first_past}
use Rattle.joins.proofs.Slots.{at}
use Rattle.search.specs.Passed.{used_at, Passed}
use Rattle.looks.specs.declared.walk.Seen.{Seen}
use Rattle.looks.specs.Walked.{waits_in, walked, stop_of, walked_by, walked_of}

-- ---- one look

module _ (l : List ℕ) (flip p i : ℕ) (there : i < length l / 64) where
  looked_at : waits_in flip p (slots_of l) i ≡ in_use (slot_at l i) && off (bit_xor flip (u64_at l (i * 64 + 56))) p
  looked_at = rw (at l i there) refl

  unused : in_use (slot_at l i) ≡ false → waits_in flip p (slots_of l) i ≡ false
  unused e = looked_at ∙ rw e refl

  pub unawaited : off (bit_xor flip (u64_at l (i * 64 + 56))) p ≡ false → waits_in flip p (slots_of l) i ≡ false
  unawaited e = looked_at ∙ rw e (and-false (in_use (slot_at l i)))

  pub waits_here : in_use (slot_at l i) ≡ true → off (bit_xor flip (u64_at l (i * 64 + 56))) p ≡ true → waits_in flip p (slots_of l) i ≡ true
  waits_here u e = looked_at ∙ rw (u, e) refl

-- ---- on past slot i, and past the empty slots up to r

go_on : (h : ℕ → Bool) {from s i r : ℕ} → Passed h from s i → i < s → h i ≡ false → Passed h (i + 1) s r → Passed h from s r
go_on h {from} {s} {i} {r} come g e on = (omega arith, on.1, λ j lo hi. go j lo hi (dec_lt j i) (dec_lt i j))
  where
    go : (j : ℕ) → from ≤ j → j < r → Dec (j < i) → Dec (i < j) → h j ≡ false
    go j lo hi (yes d) z = come.2 j lo d
    go j lo hi (no d) (yes z) = on.2 j (omega arith) hi
    go j lo hi (no d) (no z) = let x : j ≡ i = omega arith in ap h x ∙ e

pub one_on : (h : ℕ → Bool) {from s i : ℕ} → Passed h from s i → i < s → h i ≡ false → Passed h from s (i + 1)
one_on h come g e = go_on h come g e (omega arith, omega arith, λ j lo hi. absurd (omega arith))

pub empty_on : (l : List ℕ) (flip p : ℕ) {from s i r : ℕ} → s ≤ length l / 64 → Passed (waits_in flip p (slots_of l)) from s i → i < s → in_use (slot_at l i) ≡ false → Passed (used_at (slots_of l)) (i + 1) s r
    → Passed (waits_in flip p (slots_of l)) from s r
empty_on l flip p {i} top come g e on =
    go_on (waits_in flip p (slots_of l)) come g (unused l flip p i (omega arith) e) (on.0, on.1, λ j lo hi. ap (λ (b : Bool). b && off (bit_xor flip (slot_in (slots_of l) j).mask) p) (on.2 j lo hi))

-- ---- the answers

module _ (h : ℕ → Bool) (from b end : ℕ) where
  pub hits : stop_of h from b end < min (from + b) end → walked_of h from b end ≡ walked Seen.Record (suc (stop_of h from b end) - from) (b - (suc (stop_of h from b end) - from))
  unfolding walked_by
  hits g = rw (lt-ltb (stop_of h from b end) (min (from + b) end) g) refl

  pub spends : min (from + b) end ≤ stop_of h from b end → from + b < end → walked_of h from b end ≡ walked Seen.Spent b 0
  unfolding walked_by
  spends none g = rw (le-ltb (stop_of h from b end) (min (from + b) end) none, lt-ltb (from + b) end g) refl

  pub ends : min (from + b) end ≤ stop_of h from b end → end ≤ from + b → walked_of h from b end ≡ walked Seen.End (end - from) (b - (end - from))
  unfolding walked_by
  ends none g = rw (le-ltb (stop_of h from b end) (min (from + b) end) none, le-ltb (from + b) end g) refl

  -- as the loop has them, come to slot i
  module _ {i : ℕ} (come : Passed h from (min (from + b) end) i) where
    pub walked_hit : i < min (from + b) end → h i ≡ true → walked Seen.Record (i + 1 - from) (b - (i + 1 - from)) ≡ walked_of h from b end
    walked_hit g e =
        let x : stop_of h from b end ≡ i = first_past h from i (min (from + b) end) come.0 come.1 come.2 ∙ first-hit h i (min (from + b) end) g e in
        sym (hits (omega arith) ∙ rw (x, add-one i) refl)

    module _ (all : min (from + b) end ≤ i) where
      missed : min (from + b) end ≤ stop_of h from b end
      missed = omega (arith, first_past h from i (min (from + b) end) come.0 come.1 come.2, first_end h i (min (from + b) end) all)

      pub walked_spent : min (from + b) end < end → walked Seen.Spent b 0 ≡ walked_of h from b end
      walked_spent g = sym (spends missed (omega arith))

      pub walked_end : end ≤ from + b → walked Seen.End (end - from) (b - (end - from)) ≡ walked_of h from b end
      walked_end g = sym (ends missed (omega arith))
