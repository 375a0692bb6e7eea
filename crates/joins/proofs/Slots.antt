-- The slots that bytes spell after a write: a write inside a slot changes that slot and no other.
use mathlib.Core.Path.{◌≡◌, refl, sym, ◌∙◌}
use mathlib.Core.Logic.{◌⊎◌, inl, inr}
use mathlib.Core.List.{List}
use Prim.Native.Nat.{ℕ, ◌+◌, ◌*◌, ◌/◌, ◌^◌, ◌≤◌, ◌<◌}
use native.Mathlib.Nat.{add-zero}
use native.Mathlib.Omega.{arith}
use native.Mathlib.Decide.{dec_lt}
use lib.ListN.{length, take, drop, get_or, set, length-drop, replicate}
use lib.Seq.{get_or-take, get_or-drop, ext_get_or, length-take-le}
use Rattle.rules.specs.Bytes.{le, to_le, field, u32_at, u64_at}
use Rattle.rules.specs.Memory.{slot, free, T, R, slot_at, slots_of, store_of}
use Rattle.rules.proofs.Bytes.{length-to_le, le_to_le}
use Rattle.rules.proofs.Each.{length-each, at_each, each_set}
use Rattle.layout.specs.Puts.{put, put32, put64}
use Rattle.layout.proofs.Fields.{field-put-same, field-put-before, field-put-after, field_put_in}
use Rattle.layout.specs.Laws.{length-put}

-- ---- the slots of a buffer

pub count : (l : List ℕ) → length (slots_of l) ≡ length l / 64
count l = length-each (slot_at l) 0 (length l / 64)

-- T and R of the store that bytes spell
module _ (d t s : List ℕ) where
  pub slots-there : T (store_of d t s) ≡ length t / 64
  unfolding store_of
  slots-there = count t

  pub entries-there : R (store_of d t s) ≡ length s / 64
  unfolding store_of
  entries-there = count s

pub at : (l : List ℕ) (i : ℕ) → i < length l / 64 → get_or (slots_of l) i free ≡ slot_at l i
at l i h = at_each (slot_at l) (length l / 64) i free h

-- ---- fields apart from a write, and a field of a field

pub apart : (n i : ℕ) (l : List ℕ) (at : ℕ) (vs : List ℕ) → at + length vs ≤ length l → (i + n ≤ at) ⊎ (at + length vs ≤ i) → field n i (put l at vs) ≡ field n i l
apart n i l at vs h (inl a) = field-put-before l at vs n i a (omega arith)
apart n i l at vs h (inr a) = field-put-after l at vs n i a h

pub field-field : (n o m a : ℕ) (l : List ℕ) → o + n ≤ m → a + m ≤ length l → field n o (field m a l) ≡ field n (a + o) l
unfolding field
field-field n o m a l h k =
    let x : length (take m (drop a l)) ≡ m = length-take-le m (drop a l) (rw (length-drop a l) (omega arith)) in
    let y : length (take n (drop o (take m (drop a l)))) ≡ n = length-take-le n (drop o (take m (drop a l))) (rw (length-drop o (take m (drop a l)), x) (omega arith)) in
    ext_get_or 0 (take n (drop o (take m (drop a l)))) (take n (drop (a + o) l)) (y ∙ sym (length-take-le n (drop (a + o) l) (rw (length-drop (a + o) l) (omega arith))))
    (λ j q.
    let z : j < n = rw y at q in
    let e : a + (o + j) ≡ a + o + j = omega arith in
    rw (
      get_or-take n (drop o (take m (drop a l))) j 0 z,
      get_or-take n (drop (a + o) l) j 0 z,
      get_or-drop o (take m (drop a l)) j 0,
      get_or-take m (drop a l) (o + j) 0 (omega arith),
      get_or-drop a l (o + j) 0,
      get_or-drop (a + o) l j 0,
      e,
    ) refl)

-- ---- a write of vs at offset o of slot p

module _ (l : List ℕ) (p o : ℕ) (vs : List ℕ) (fits : o + length vs ≤ 64) (there : p < length l / 64) where
  beside : (j : ℕ) → (j ≡ p → ⊥) → (k n : ℕ) → k + n ≤ 64 → (j * 64 + k + n ≤ p * 64 + o) ⊎ (p * 64 + o + length vs ≤ j * 64 + k)
  beside j d k n q = go (dec_lt j p)
    where
      go : Dec (j < p) → (j * 64 + k + n ≤ p * 64 + o) ⊎ (p * 64 + o + length vs ≤ j * 64 + k)
      go (yes e) = inl (omega arith)
      go (no e) = inr (omega arith)

  other : (j : ℕ) → (j ≡ p → ⊥) → slot_at (put l (p * 64 + o) vs) j ≡ slot_at l j
  unfolding u32_at u64_at
  other j d =
      let off : (n k : ℕ) → k + n ≤ 64 → field n (j * 64 + k) (put l (p * 64 + o) vs) ≡ field n (j * 64 + k) l =
      λ n k q. apart n (j * 64 + k) l (p * 64 + o) vs (omega arith) (beside j d k n q) in
      rw (rw (add-zero (j * 64)) at (off 4 0 (omega arith)), off 52 4 (omega arith), off 8 56 (omega arith)) refl

  pub slots-put : slots_of (put l (p * 64 + o) vs) ≡ set (slots_of l) p (slot_at (put l (p * 64 + o) vs) p)
  slots-put =
      rw (length-put l (p * 64 + o) vs (omega arith)) (each_set (slot_at l) (slot_at (put l (p * 64 + o) vs)) (length l / 64) p free there (λ j z d. other j d))

-- ---- each kind of write to slot p

module _ (l : List ℕ) (p : ℕ) (there : p < length l / 64) where
  at_0 : (vs : List ℕ) → length vs ≤ 64 → slots_of (put l (p * 64) vs) ≡ set (slots_of l) p (slot_at (put l (p * 64) vs) p)
  at_0 vs h = rw (add-zero (p * 64)) at (slots-put l p 0 vs (omega arith) there)

  pub number_put : (k : ℕ) → k < 4294967296 → slots_of (put32 l (p * 64) k) ≡ set (slots_of l) p (slot k (field 52 (p * 64 + 4) l) (u64_at l (p * 64 + 56)))
  unfolding u32_at u64_at put32
  number_put k s =
      let n : length (to_le 4 k) ≡ 4 = length-to_le 4 k in
      at_0 (to_le 4 k) (omega arith)
      ∙ rw (
        field-put-same l (p * 64) (to_le 4 k) 4 (sym n) (omega arith),
        field-put-after l (p * 64) (to_le 4 k) 52 (p * 64 + 4) (omega arith) (omega arith),
        field-put-after l (p * 64) (to_le 4 k) 8 (p * 64 + 56) (omega arith) (omega arith),
        le_to_le 4 k s,
      ) refl

  pub body-put : (b : List ℕ) → length b ≡ 52 → slots_of (put l (p * 64 + 4) b) ≡ set (slots_of l) p (slot (u32_at l (p * 64)) b (u64_at l (p * 64 + 56)))
  unfolding u32_at u64_at
  body-put b e =
      slots-put l p 4 b (omega arith) there
      ∙ rw (
        field-put-before l (p * 64 + 4) b 4 (p * 64) (omega arith) (omega arith),
        field-put-same l (p * 64 + 4) b 52 (sym e) (omega arith),
        field-put-after l (p * 64 + 4) b 8 (p * 64 + 56) (omega arith) (omega arith),
      ) refl

  pub mask-put : (m : ℕ) → m < 2 ^ 64 → slots_of (put64 l (p * 64 + 56) m) ≡ set (slots_of l) p (slot (u32_at l (p * 64)) (field 52 (p * 64 + 4) l) m)
  unfolding u32_at u64_at put64
  mask-put m s =
      let n : length (to_le 8 m) ≡ 8 = length-to_le 8 m in
      slots-put l p 56 (to_le 8 m) (omega arith) there
      ∙ rw (
        field-put-before l (p * 64 + 56) (to_le 8 m) 4 (p * 64) (omega arith) (omega arith),
        field-put-before l (p * 64 + 56) (to_le 8 m) 52 (p * 64 + 4) (omega arith) (omega arith),
        field-put-same l (p * 64 + 56) (to_le 8 m) 8 (sym n) (omega arith),
        le_to_le 8 m s,
      ) refl

  -- the 56 bytes of number and body
  pub version-put : (vs : List ℕ) → length vs ≡ 56 → slots_of (put l (p * 64) vs) ≡ set (slots_of l) p (slot (u32_at vs 0) (field 52 4 vs) (u64_at l (p * 64 + 56)))
  unfolding u32_at u64_at
  version-put vs e =
      at_0 vs (omega arith)
      ∙ rw (
        rw (add-zero (p * 64)) at (field_put_in l (p * 64) vs 4 0 (omega arith) (omega arith)),
        field_put_in l (p * 64) vs 52 4 (omega arith) (omega arith),
        field-put-after l (p * 64) vs 8 (p * 64 + 56) (omega arith) (omega arith),
      ) refl

  -- a freed slot
  pub clear_put : slots_of (put l (p * 64) (replicate 64 0)) ≡ set (slots_of l) p free
  unfolding u32_at u64_at le field
  clear_put =
      let x : field 4 (p * 64) (put l (p * 64) (replicate 64 0)) ≡ field 4 0 (replicate 64 0) = rw (add-zero (p * 64)) at (field_put_in l (p * 64) (replicate 64 0) 4 0 (omega arith) (omega arith)) in
      let y : field 52 (p * 64 + 4) (put l (p * 64) (replicate 64 0)) ≡ field 52 4 (replicate 64 0) = field_put_in l (p * 64) (replicate 64 0) 52 4 (omega arith) (omega arith) in
      let z : field 8 (p * 64 + 56) (put l (p * 64) (replicate 64 0)) ≡ field 8 56 (replicate 64 0) = field_put_in l (p * 64) (replicate 64 0) 8 56 (omega arith) (omega arith) in
      at_0 (replicate 64 0) (omega arith) ∙ rw (x, y, z) refl
