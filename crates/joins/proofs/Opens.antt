-- The bytes that an opening leaves spell a fresh store.
use mathlib.Core.Path.{◌≡◌, refl, sym, ap, ◌∙◌}
use mathlib.Core.List.{List, [], ◌∷◌, ◌++◌, append_assoc}
use Prim.Native.Nat.{ℕ, zero, suc, ◌+◌, ◌*◌, ◌/◌, ◌≤◌, ◌<◌}
use native.Mathlib.Omega.{arith}
use lib.ListN.{length, take, drop, replicate, length-replicate, get_or-replicate, length-append, length-drop}
use lib.Seq.{ext_get_or, get_or-take, get_or-drop, length-take-le}
use Rattle.rules.specs.Bytes.{le, to_le, field, u32_at, u64_at}
use Rattle.rules.specs.Calls.{opened}
use Rattle.rules.specs.Masks.{masks, fresh}
use Rattle.rules.specs.Memory.{free, idle, desk, each, slot_at, slots_of, card_at, desk_of, store_of, masks_bytes}
use Rattle.rules.proofs.Bytes.{length-to_le}
use Rattle.rules.proofs.Each.{each_same}
use Rattle.layout.specs.Puts.{put, put32}
use Rattle.layout.proofs.Fields.{put-put, field_put_in, field-put-after}
use Rattle.layout.specs.Laws.{length-put}
use Rattle.joins.proofs.Desks.{cards-same, masks-put, inside, at_end_lem}

-- ---- zeros read as zero

pub field-zeros : (n at k : ℕ) → at + n ≤ k → field n at (replicate k 0) ≡ replicate n 0
unfolding field
field-zeros n at k h =
    let l : List ℕ = replicate k 0 in
    let m : List ℕ = replicate n 0 in
    let z : length l ≡ k = length-replicate {A = ℕ} k 0 in
    let x : length (take n (drop at l)) ≡ n = length-take-le n (drop at l) (rw (length-drop at l) (omega arith)) in
    ext_get_or 0 (take n (drop at l)) m (x ∙ sym (length-replicate {A = ℕ} n 0))
    (λ j q.
    let y : j < n = rw x at q in
    rw (get_or-take n (drop at l) j 0 y, get_or-drop at l j 0, get_or-replicate {A = ℕ} k (at + j) 0 0 (omega arith), get_or-replicate {A = ℕ} n j 0 0 y) refl)

each_const : {A : Type 0} (x : A) (i n : ℕ) → each (λ _. x) i n ≡ replicate n x
unfolding each
each_const x i zero = refl
each_const x i (suc n) = ap (λ (l : List _). x ∷ l) (each_const x (suc i) n)

pub slots-zeros : (k : ℕ) → slots_of (replicate k 0) ≡ replicate (k / 64) free
unfolding u32_at u64_at le
slots-zeros k =
    rw (length-replicate {A = ℕ} k 0)
    (each_same (λ _. free) (slot_at (replicate k 0)) (k / 64) free
    (λ j h. rw (field-zeros 4 (j * 64) k (omega arith), field-zeros 52 (j * 64 + 4) k (omega arith), field-zeros 8 (j * 64 + 56) k (omega arith)) refl)
    ∙ each_const free 0 (k / 64))

cards-zeros : each (card_at (replicate 1088 0)) 0 64 ≡ replicate 64 idle
unfolding u32_at le
cards-zeros =
    each_same (λ _. idle) (card_at (replicate 1088 0)) 64 idle
    (λ j h. rw (field-zeros 4 (64 + j * 16) 1088 (omega arith), field-zeros 4 (64 + j * 16 + 4) 1088 (omega arith), field-zeros 4 (64 + j * 16 + 8) 1088 (omega arith), field-zeros 4 (64 + j * 16 + 12) 1088 (omega arith)) refl)
    ∙ each_const idle 0 64

-- ---- N, T and R over zeros

module _ (n t r : ℕ) (sn : n < 4294967296) (st : t < 4294967296) (sr : r < 4294967296) where
  length_head : length (to_le 4 n ++ (to_le 4 t ++ to_le 4 r)) ≡ 12
  length_head = simp (length-append, length-to_le) refl

  head_puts : (d : List ℕ) → 12 ≤ length d → put32 (put32 (put32 d 0 n) 4 t) 8 r ≡ put d 0 (to_le 4 n ++ (to_le 4 t ++ to_le 4 r))
  unfolding put32
  head_puts d h =
      let a : length (to_le 4 n) ≡ 4 = length-to_le 4 n in
      let b : length (to_le 4 t) ≡ 4 = length-to_le 4 t in
      let c : length (to_le 4 r) ≡ 4 = length-to_le 4 r in
      let e : length (to_le 4 n ++ to_le 4 t) ≡ 8 = length-append (to_le 4 n) (to_le 4 t) ∙ omega arith in
      rw (put-put d 0 (to_le 4 n) (to_le 4 t) 4 (omega arith) (omega arith), put-put d 0 (to_le 4 n ++ to_le 4 t) (to_le 4 r) 8 (omega arith) (omega arith), append_assoc) refl

  head_put : desk_of (put (replicate 1088 0) 0 (to_le 4 n ++ (to_le 4 t ++ to_le 4 r))) ≡ desk n t r 0 (masks 0 0 0) (replicate 24 0) (replicate 64 idle)
  unfolding desk_of u32_at u64_at le
  head_put =
      let z : List ℕ = replicate 1088 0 in
      let h : List ℕ = to_le 4 n ++ (to_le 4 t ++ to_le 4 r) in
      let k : length h ≡ 12 = length_head in
      let on : (o : ℕ) → o + 4 ≤ 12 → field 4 (0 + o) (put z 0 h) ≡ field 4 o h = λ o e. field_put_in z 0 h 4 o (omega arith) (omega arith) in
      let hi : (w i : ℕ) → 12 ≤ i → i + w ≤ 1088 → field w i (put z 0 h) ≡ replicate w 0 = λ w i e q. field-put-after z 0 h w i (omega arith) (omega arith) ∙ field-zeros w i 1088 q in
      let x : le (field 4 8 h) ≡ r =
      rw (← append_assoc (to_le 4 n) (to_le 4 t) (to_le 4 r)) (at_end_lem 4 (to_le 4 n ++ to_le 4 t) 8 (length-append (to_le 4 n) (to_le 4 t) ∙ omega (arith, length-to_le 4 n, length-to_le 4 t)) r sr) in
      rw (
        cards-same z 0 h refl (omega arith),
        cards-zeros,
        on 0 (omega arith),
        on 4 (omega arith),
        on 8 (omega arith),
        hi 4 12 (omega arith) (omega arith),
        hi 8 16 (omega arith) (omega arith),
        hi 8 24 (omega arith) (omega arith),
        hi 8 32 (omega arith) (omega arith),
        hi 24 40 (omega arith) (omega arith),
        inside 4 [] 0 refl n sn (to_le 4 t ++ to_le 4 r),
        inside 4 (to_le 4 n) 4 (length-to_le 4 n) t st (to_le 4 r),
        x,
      ) refl

  -- what the code of an opening writes
  pub opened-spelt : (a b : ℕ) → a / 64 ≡ t → b / 64 ≡ r
      → store_of (put (put32 (put32 (put32 (replicate 1088 0) 0 n) 4 t) 8 r) 16 (masks_bytes fresh)) (replicate a 0) (replicate b 0) ≡ opened n t r
  unfolding store_of opened
  opened-spelt a b ea eb =
      let d : List ℕ = put (replicate 1088 0) 0 (to_le 4 n ++ (to_le 4 t ++ to_le 4 r)) in
      let k : length d ≡ 1088 = length-put (replicate 1088 0) 0 (to_le 4 n ++ (to_le 4 t ++ to_le 4 r)) (omega (arith, length_head)) in
      rw (head_puts (replicate 1088 0) (omega arith), masks-put d fresh k (omega arith, omega arith, omega arith), head_put, slots-zeros a, slots-zeros b, ea, eb) refl
