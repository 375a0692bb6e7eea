-- Laws of a write, and of the two numbers that lent bytes hold.
use mathlib.Core.Path.{◌≡◌}
use mathlib.Core.List.{List}
use Prim.Native.Nat.{ℕ, ◌+◌, ◌≤◌}
use native.Mathlib.Omega.{arith}
use lib.ListN.{length, drop, length-append, length-drop}
use lib.Seq.{drop-drop, length-take-le}
use Rattle.std.proofs.lemmas.List.{take-append-drop}
use Rattle.rules.specs.Bytes.{to_le, field, u32_at, u64_at}
use Rattle.rules.proofs.Bytes.{Bytes, length-to_le, to_le-field}
use Rattle.layout.specs.Puts.{put, put32, put64}

pub length-put : (l : List ℕ) (at : ℕ) (vs : List ℕ) → at + length vs ≤ length l → length (put l at vs) ≡ length l
unfolding put
length-put l at vs h = simp (length-append, length-drop, length-take-le at l (omega arith)) (omega arith)

-- what stands there, written there
pub put-field : (l : List ℕ) (at n : ℕ) → at + n ≤ length l → put l at (field n at l) ≡ l
unfolding put field
put-field l at n h = rw (length-take-le n (drop at l) (rw (length-drop at l) (omega arith)), ← drop-drop n at l, take-append-drop n (drop at l)) (take-append-drop at l)

module _ (l : List ℕ) (i : ℕ) where
  length_put_le : (n v : ℕ) → i + n ≤ length l → length (put l i (to_le n v)) ≡ length l
  length_put_le n v h = length-put l i (to_le n v) (rw (length-to_le n v) h)

  pub length-put32 : (v : ℕ) → i + 4 ≤ length l → length (put32 l i v) ≡ length l
  unfolding put32
  length-put32 v h = length_put_le 4 v h

  pub length-put64 : (v : ℕ) → i + 8 ≤ length l → length (put64 l i v) ≡ length l
  unfolding put64
  length-put64 v h = length_put_le 8 v h

  module _ (b : Bytes l) where
    pub put32-back : i + 4 ≤ length l → put32 l i (u32_at l i) ≡ l
    unfolding put32 u32_at
    put32-back h = rw (to_le-field 4 i l b h) (put-field l i 4 h)

    pub put64-back : i + 8 ≤ length l → put64 l i (u64_at l i) ≡ l
    unfolding put64 u64_at
    put64-back h = rw (to_le-field 8 i l b h) (put-field l i 8 h)
