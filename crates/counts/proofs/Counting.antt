-- The versions that a scan waits for from one slot on, as the code counts them.
use mathlib.Core.Path.{◌≡◌, refl, sym, ap, ◌∙◌}
use mathlib.Core.Bool.{Bool, true, false, not, ◌&&◌}
use mathlib.Core.List.{List}
use Prim.Native.Nat.{ℕ, ◌+◌, ◌*◌, ◌-◌, ◌/◌, ◌≤◌, ◌<◌}
use native.Mathlib.Nat.{sub-zero}
use native.Mathlib.Omega.{arith}
use lib.Bits.{bit_xor}
use lib.ListN.{length}
use Rattle.std.specs.Int.{from_bool}
use Rattle.rules.specs.Bytes.{u64_at}
use Rattle.rules.specs.Calls.{in_use, count}
use Rattle.rules.specs.Masks.{on, off}
use Rattle.rules.specs.Memory.{slot_at, slots_of}
use Rattle.rules.proofs.Bits.{not_on}
use Rattle.joins.specs.Search.{waiting}
use Rattle.joins.proofs.Search.{count_turn, count_end, count_past}
use Rattle.search.specs.Passed.{used_at, Passed}
use Rattle.search.proofs.Passing.{used_is}
use Rattle.counts.specs.Waiting.{waiting_from, Counted}

pub at_most_one : (b : Bool) → from_bool b ≤ 1
at_most_one true = omega arith
at_most_one false = omega arith

module _ (l : List ℕ) (flip p : ℕ) where
  pub waits_by_words : (i : ℕ) {used : Bool} {mask : ℕ} → used ≡ in_use (slot_at l i) → mask ≡ u64_at l (i * 64 + 56) → used && not (on (bit_xor flip mask) p) ≡ waiting flip p (slot_at l i)
  waits_by_words i a b = rw (a, b, not_on (bit_xor flip (u64_at l (i * 64 + 56))) p) refl

  pub from_first : waiting_from flip p l 0 ≡ count (waiting flip p) (slots_of l)
  unfolding waiting_from
  from_first = rw (sub-zero (length l / 64)) refl

  pub from_last : (i : ℕ) → length l / 64 ≤ i → waiting_from flip p l i ≡ 0
  unfolding waiting_from
  from_last i h = count_end (waiting flip p) (slot_at l) i (length l / 64) h

  pub from_turn : (i : ℕ) → i < length l / 64 → waiting_from flip p l i ≡ from_bool (waiting flip p (slot_at l i)) + waiting_from flip p l (i + 1)
  unfolding waiting_from
  from_turn i h = count_turn (waiting flip p) (slot_at l) i (length l / 64) h

  -- four slots at once
  pub from_four : (i : ℕ) → i + 4 ≤ length l / 64
      → waiting_from flip p l i ≡ from_bool (waiting flip p (slot_at l i)) + from_bool (waiting flip p (slot_at l (i + 1))) + from_bool (waiting flip p (slot_at l (i + 2))) + from_bool (waiting flip p (slot_at l (i + 3))) + waiting_from flip p l (i + 4)
  from_four i h =
      let x : i + 1 + 1 ≡ i + 2 = omega arith in
      let y : i + 2 + 1 ≡ i + 3 = omega arith in
      let z : i + 3 + 1 ≡ i + 4 = omega arith in
      omega (arith, from_turn i (omega arith), rw x at (from_turn (i + 1) (omega arith)), rw y at (from_turn (i + 2) (omega arith)), rw z at (from_turn (i + 3) (omega arith)))

  -- as the code adds them up
  pub four_counted : (i : ℕ) → i + 4 ≤ length l / 64 → {a b c d : ℕ} {x y z w : Bool} → x ≡ waiting flip p (slot_at l i) → y ≡ waiting flip p (slot_at l (i + 1)) → z ≡ waiting flip p (slot_at l (i + 2)) → w ≡ waiting flip p (slot_at l (i + 3))
      → a ≡ from_bool x → b ≡ from_bool y → c ≡ from_bool z → d ≡ from_bool w → Counted flip p l i (i + 4) (a + b + c + d)
  four_counted i h ex ey ez ew ea eb ec ed = rw (ea, eb, ec, ed, ex, ey, ez, ew) (sym (from_four i h))

  -- empty slots wait for no scan
  pub from-past-empty : (i r : ℕ) → Passed (used_at (slots_of l)) i (length l / 64) r → waiting_from flip p l i ≡ waiting_from flip p l r
  unfolding waiting_from
  from-past-empty i r e =
      let x : i + (r - i) ≡ r = omega arith in
      rw x at (count_past (waiting flip p) (slot_at l) (length l / 64) (r - i) i (omega arith) (λ j lo hi. waits-not j (omega arith) (e.2 j lo (omega arith))))
    where
      waits-not : (j : ℕ) → j < length l / 64 → used_at (slots_of l) j ≡ false → waiting flip p (slot_at l j) ≡ false
      waits-not j h z = ap (λ (b : Bool). b && off (bit_xor flip (u64_at l (j * 64 + 56))) p) (used_is l j h ∙ z)
