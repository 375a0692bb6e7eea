-- What is read of lent bytes and written again is what was lent: no byte is lost, junk and reserved words included.
use mathlib.Core.Path.{◌≡◌, refl, sym, ap, ◌∙◌}
use mathlib.Core.List.{List}
use Prim.Native.Nat.{ℕ, zero, suc, ◌+◌, ◌*◌, ◌/◌, ◌%◌, ◌≤◌}
use native.Mathlib.Nat.{zero-add, zero-mul, suc-mul}
use native.Mathlib.Omega.{arith}
use lib.ListN.{length}
use Rattle.rules.specs.Bytes.{field, u32_at, u64_at}
use Rattle.rules.specs.Memory.{Lent, each, slot_at, slots_of, card_at, desk_of, store_of, read, joined, slot_bytes, card_bytes, desk_bytes, written}
use Rattle.rules.proofs.Bytes.{Bytes, field-all, glue, to_le-field}

-- bytes of right lengths
pub record Right (l : Lent) : Type 0 where
  pub desk_length : length l.desk ≡ 1088
  pub table_whole : length l.table % 64 ≡ 0
  pub shelf_whole : length l.shelf % 64 ≡ 0
  pub desk_bytes : Bytes l.desk
  pub table_bytes : Bytes l.table
  pub shelf_bytes : Bytes l.shelf

slot-bytes : (l : List ℕ) (i : ℕ) → Bytes l → i * 64 + 64 ≤ length l → slot_bytes (slot_at l i) ≡ field 64 (i * 64) l
unfolding u32_at u64_at
slot-bytes l i b h =
    rw (to_le-field 4 (i * 64) l b (omega arith), to_le-field 8 (i * 64 + 56) l b (omega arith), glue 4 52 (i * 64) (i * 64 + 4) l refl)
    (glue 56 8 (i * 64) (i * 64 + 56) l refl)

card-bytes : (l : List ℕ) (i : ℕ) → Bytes l → 64 + i * 16 + 16 ≤ length l → card_bytes (card_at l i) ≡ field 16 (64 + i * 16) l
unfolding u32_at
card-bytes l i b h =
    rw (
      to_le-field 4 (64 + i * 16) l b (omega arith),
      to_le-field 4 (64 + i * 16 + 4) l b (omega arith),
      to_le-field 4 (64 + i * 16 + 8) l b (omega arith),
      to_le-field 4 (64 + i * 16 + 12) l b (omega arith),
      glue 4 4 (64 + i * 16 + 8) (64 + i * 16 + 12) l (omega arith),
      glue 4 8 (64 + i * 16 + 4) (64 + i * 16 + 8) l (omega arith),
    ) (glue 4 12 (64 + i * 16) (64 + i * 16 + 4) l refl)

-- records of w bytes each, from offset o on
module _ {A : Type 0} (l : List ℕ) (o w : ℕ) (record_at : ℕ → A) (bytes : A → List ℕ)
    (one : (i : ℕ) → o + i * w + w ≤ length l → bytes (record_at i) ≡ field w (o + i * w) l) where
  pub all-joined : (i n : ℕ) → o + i * w + n * w ≤ length l → joined bytes (each record_at i n) ≡ field (n * w) (o + i * w) l
  unfolding joined each field
  all-joined i zero h = rw (zero-mul w) refl
  all-joined i (suc n) h =
      let a : suc n * w ≡ n * w + w = suc-mul n w in
      let b : suc i * w ≡ i * w + w = suc-mul i w in
      let q : w + n * w ≡ suc n * w = omega arith in
      rw (one i (omega arith), all-joined (suc i) n (omega arith))
      (glue w (n * w) (o + i * w) (o + suc i * w) l (omega arith) ∙ ap (λ (m : ℕ). field m (o + i * w) l) q)

slots_back : (l : List ℕ) → Bytes l → length l % 64 ≡ 0 → joined slot_bytes (slots_of l) ≡ l
slots_back l b h =
    let q : length l / 64 * 64 ≡ length l = omega arith in
    all-joined l 0 64 (slot_at l) slot_bytes (λ i k. slot-bytes l i b (omega arith) ∙ ap (λ (m : ℕ). field 64 m l) (sym (zero-add (i * 64)))) 0 (length l / 64) (omega arith) ∙ ap (λ (m : ℕ). field m 0 l) q ∙ field-all l (length l) refl

cards_back : (d : List ℕ) → Bytes d → length d ≡ 1088 → joined card_bytes (each (card_at d) 0 64) ≡ field 1024 64 d
cards_back d b h = all-joined d 64 16 (card_at d) card_bytes (λ i k. card-bytes d i b k) 0 64 (omega arith)

desk_back : (d : List ℕ) → Bytes d → length d ≡ 1088 → desk_bytes (desk_of d) ≡ d
unfolding desk_bytes desk_of u32_at u64_at
desk_back d b h =
    rw (
      cards_back d b h,
      glue 24 1024 40 64 d refl,
      to_le-field 8 16 d b (omega arith),
      to_le-field 8 24 d b (omega arith),
      to_le-field 8 32 d b (omega arith),
      glue 8 8 24 32 d refl,
      glue 8 16 16 24 d refl,
      glue 24 1048 16 40 d refl,
      to_le-field 4 12 d b (omega arith),
      glue 4 1072 12 16 d refl,
      to_le-field 4 8 d b (omega arith),
      glue 4 1076 8 12 d refl,
      to_le-field 4 4 d b (omega arith),
      glue 4 1080 4 8 d refl,
      to_le-field 4 0 d b (omega arith),
      glue 4 1084 0 4 d refl,
    ) (field-all d 1088 h)

pub written_read : (l : Lent) → Right l → written (read l) ≡ l
unfolding written store_of
written_read l r i =
    record { desk = desk_back l.desk r.desk_bytes r.desk_length i; table = slots_back l.table r.table_bytes r.table_whole i; shelf = slots_back l.shelf r.shelf_bytes r.shelf_whole i }
