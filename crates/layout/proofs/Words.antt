-- A number by its bytes, as the library reads and writes them.
use mathlib.Core.Path.{◌≡◌, refl, sym, ap, ◌∙◌}
use mathlib.Core.List.{List, [], ◌∷◌}
use Prim.Native.Nat.{ℕ, zero, suc, ◌+◌, ◌/◌, ◌%◌, ◌^◌, ◌≤◌, ◌<◌}
use native.Mathlib.Nat.{add-suc, add-zero, suc-add, pow-suc}
use native.Mathlib.Omega.{arith}
use lib.ListN.{length, take, drop, get_or}
use lib.Seq.{drop-cons}
use Rattle.std.specs.Int.{w32, w64, from_le_bytes, bytes_low_first, byte_at}
use Rattle.std.proofs.Math.Nat.{div-div-eq-div-mul}
use Rattle.rules.specs.Bytes.{le, to_le, field, u32_at, u64_at}

-- the elements at + k, at + (k + 1), .., n of them
abbrev pub span : List ℕ → ℕ → ℕ → ℕ → List ℕ
span l at k zero = []
span l at k (suc n) = get_or l (at + k) 0 ∷ span l at (suc k) n

span_take : (n : ℕ) (l : List ℕ) (at k : ℕ) → at + k + n ≤ length l → span l at k n ≡ take n (drop (at + k) l)
span_take zero l at k h = refl
span_take (suc n) l at k h =
    let i : at + k < length l = omega (arith, add-suc (at + k) n) in
    let j : at + suc k + n ≤ length l = omega (arith, add-suc (at + k) n, add-suc at k, suc-add (at + k) n) in
    rw (drop-cons l (at + k) 0 i) (ap (λ (t : List ℕ). get_or l (at + k) 0 ∷ t) (span_take n l at (suc k) j ∙ ap (λ (m : ℕ). take n (drop m l)) (add-suc at k)))

field_span : (n : ℕ) (l : List ℕ) (at : ℕ) → at + n ≤ length l → field n at l ≡ span l at 0 n
unfolding field
field_span n l at h = let j : at + 0 + n ≤ length l = omega arith in sym (span_take n l at 0 j ∙ ap (λ (m : ℕ). take n (drop m l)) (add-zero at))

-- ---- read

pub spells32 : (l : List ℕ) (at : ℕ) → at + 4 ≤ length l → from_le_bytes w32 (field 4 at l) ≡ u32_at l at
unfolding u32_at le
spells32 l at h = rw (field_span 4 l at h) (omega arith)

pub spells64 : (l : List ℕ) (at : ℕ) → at + 8 ≤ length l → from_le_bytes w64 (field 8 at l) ≡ u64_at l at
unfolding u64_at le
spells64 l at h = rw (field_span 8 l at h) (omega arith)

-- ---- written

byte_is : (i v : ℕ) → byte_at i v ≡ v / 256 ^ i % 256
byte_is zero v = omega arith
byte_is (suc i) v = refl

bytes_from : (k i v : ℕ) → bytes_low_first i k v ≡ to_le k (v / 256 ^ i)
unfolding to_le
bytes_from zero i v = refl
bytes_from (suc k) i v = rw (byte_is i v, bytes_from k (suc i) v, div-div-eq-div-mul v (256 ^ i) 256, pow-suc 256 i) refl

pub spelt : (k v : ℕ) → bytes_low_first 0 k v ≡ to_le k v
spelt k v = let e : v / 256 ^ 0 ≡ v = omega arith in bytes_from k 0 v ∙ rw e refl
