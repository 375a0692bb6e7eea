-- Laws of fields and of little-endian numbers, at any width.
use mathlib.Core.Path.{◌≡◌, refl, sym, ap, ◌∙◌}
use mathlib.Core.List.{List, [], ◌∷◌, ◌++◌}
use Prim.Native.Nat.{ℕ, zero, suc, ◌+◌, ◌*◌, ◌/◌, ◌%◌, ◌^◌, ◌≤◌, ◌<◌}
use native.Mathlib.Nat.{pow-suc}
use native.Mathlib.Omega.{arith}
use native.Mathlib.Decide.{dec_lt}
use lib.ListN.{length, take, drop, get_or, length-take, length-drop, get_or-eq_default}
use lib.Seq.{get_or-take, get_or-drop, take-add, drop-drop, take_all, length-take-le}
use Rattle.rules.specs.Bytes.{le, to_le, field, u32_at, u64_at}

-- every element is a byte
abbrev pub Bytes : List ℕ → Type 0
Bytes l = (i : ℕ) → get_or l i 0 < 256

pub length-field : (n at : ℕ) (l : List ℕ) → at + n ≤ length l → length (field n at l) ≡ n
unfolding field
length-field n at l h = length-take-le n (drop at l) (rw (length-drop at l) (omega arith))

pub bytes-field : (n at : ℕ) (l : List ℕ) → Bytes l → Bytes (field n at l)
unfolding field
bytes-field n at l h i = go (dec_lt i n)
  where
    go : Dec (i < n) → get_or (take n (drop at l)) i 0 < 256
    go (yes d) = rw (get_or-take n (drop at l) i 0 d, get_or-drop at l i 0) (h (at + i))
    go (no d) = rw (get_or-eq_default (take n (drop at l)) 0 {n = i} (rw (length-take n (drop at l)) (omega arith))) (omega arith)

pub field-all : (l : List ℕ) (n : ℕ) → length l ≡ n → field n 0 l ≡ l
unfolding field
field-all l n e = take_all n l (omega arith)

-- two fields side by side are one
pub glue : (a b at at' : ℕ) (l : List ℕ) → at' ≡ at + a → field a at l ++ field b at' l ≡ field (a + b) at l
unfolding field
glue a b at at' l e = rw (e, ← drop-drop a at l) (sym (take-add a b (drop at l)))

-- ---- numbers

pub length-to_le : (n v : ℕ) → length (to_le n v) ≡ n
unfolding to_le
length-to_le zero v = refl
length-to_le (suc n) v = ap suc (length-to_le n (v / 256))

pub bytes-to_le : (n v : ℕ) → Bytes (to_le n v)
unfolding to_le
bytes-to_le zero v i = omega arith
bytes-to_le (suc n) v zero = omega arith
bytes-to_le (suc n) v (suc i) = bytes-to_le n (v / 256) i

pub le_to_le : (n v : ℕ) → v < 256 ^ n → le (to_le n v) ≡ v
unfolding le to_le
le_to_le zero v h = omega arith
le_to_le (suc n) v h = rw (le_to_le n (v / 256) (omega (arith, pow-suc 256 n))) (omega arith)

pub to_le_le : (l : List ℕ) → Bytes l → to_le (length l) (le l) ≡ l
unfolding le to_le
to_le_le [] h = refl
to_le_le (x ∷ xs) h =
    let b : x < 256 = h 0 in
    let p : (x + 256 * le xs) % 256 ≡ x = omega arith in
    let q : (x + 256 * le xs) / 256 ≡ le xs = omega arith in
    rw (p, q, to_le_le xs (λ i. h (suc i))) refl

le_bound : (l : List ℕ) → Bytes l → le l < 256 ^ length l
unfolding le
le_bound [] h = omega arith
le_bound (x ∷ xs) h = let b : x < 256 = h 0 in omega (arith, le_bound xs (λ i. h (suc i)), pow-suc 256 (length xs))

pub to_le-field : (n at : ℕ) (l : List ℕ) → Bytes l → at + n ≤ length l → to_le n (le (field n at l)) ≡ field n at l
to_le-field n at l b h = ap (λ (m : ℕ). to_le m (le (field n at l))) (sym (length-field n at l h)) ∙ to_le_le (field n at l) (bytes-field n at l b)

pub u32_small : (l : List ℕ) (at : ℕ) → Bytes l → at + 4 ≤ length l → u32_at l at < 4294967296
unfolding u32_at
u32_small l at b h = rw (length-field 4 at l h) at (le_bound (field 4 at l) (bytes-field 4 at l b))

pub u64_small : (l : List ℕ) (at : ℕ) → Bytes l → at + 8 ≤ length l → u64_at l at < 2 ^ 64
unfolding u64_at
u64_small l at b h = rw (length-field 8 at l h) at (le_bound (field 8 at l) (bytes-field 8 at l b))
