-- The bytes that a change leaves spell the store of the rule.
use mathlib.Core.Path.{◌≡◌, refl, sym, ap, ◌∙◌}
use mathlib.Core.Bool.{true, false}
use mathlib.Core.Option.{none, some}
use mathlib.Core.List.{List}
use Prim.Native.Nat.{ℕ, ◌+◌, ◌*◌, ◌/◌, ◌^◌, ◌≤◌, ◌<◌}
use native.Mathlib.Nat.{add-zero}
use native.Mathlib.Omega.{arith}
use lib.ListN.{length, get_or, set, replicate}
use lib.Seq.{set-set, get_or-set_same}
use Rattle.rules.specs.Bytes.{to_le, field, u32_at, u64_at}
use Rattle.rules.specs.Calls.{empty_slot, shelf_entry, inserted, m_at, changed_by}
use Rattle.rules.specs.Masks.{new_status, m_of, STATUS_MASK_UPD}
use Rattle.rules.specs.Memory.{Slot, slot, free, slot_at, slots_of, masks_of, desk_of, store_of}
use Rattle.rules.proofs.Bits.{not_small}
use Rattle.rules.proofs.Bytes.{length-field, length-to_le}
use Rattle.layout.specs.Puts.{put, put32, put64}
use Rattle.layout.specs.Laws.{length-put}
use Rattle.joins.proofs.Slots.{count, at, field-field, number_put, body-put, mask-put, version-put, clear_put}

-- ---- lengths stay

pub length-put32 : (l : List ℕ) (at v : ℕ) → at + 4 ≤ length l → length (put32 l at v) ≡ length l
unfolding put32
length-put32 l at v h = length-put l at (to_le 4 v) (omega (arith, length-to_le 4 v))

pub length-put64 : (l : List ℕ) (at v : ℕ) → at + 8 ≤ length l → length (put64 l at v) ≡ length l
unfolding put64
length-put64 l at v h = length-put l at (to_le 8 v) (omega (arith, length-to_le 8 v))

-- ---- one write to slot i behind another

module _ (l l₁ l₂ : List ℕ) (i : ℕ) (x : Slot) (there : i < length l / 64) (same : length l₁ ≡ length l) (first : slots_of l₁ ≡ set (slots_of l) i x) where
  spelt : slot_at l₁ i ≡ x
  spelt = sym (at l₁ i (rw same there)) ∙ ap (λ (s : List Slot). get_or s i free) first ∙ get_or-set_same (slots_of l) i x free (rw (count l) there)

  pub behind : (f : Slot → Slot) → slots_of l₂ ≡ set (slots_of l₁) i (f (slot_at l₁ i)) → slots_of l₂ ≡ set (slots_of l) i (f x)
  behind f second = second ∙ rw (spelt, first) (set-set (slots_of l) i x (f x))

-- body and mask
pub body-mask-put : (l : List ℕ) (i : ℕ) → i < length l / 64 → (b : List ℕ) (m : ℕ) → length b ≡ 52 → m < 2 ^ 64
    → slots_of (put64 (put l (i * 64 + 4) b) (i * 64 + 56) m) ≡ set (slots_of l) i (slot (u32_at l (i * 64)) b m)
body-mask-put l i there b m e s =
    let l₁ : List ℕ = put l (i * 64 + 4) b in
    let n : length l₁ ≡ length l = length-put l (i * 64 + 4) b (omega arith) in
    behind l l₁ (put64 l₁ (i * 64 + 56) m) i (slot (u32_at l (i * 64)) b (u64_at l (i * 64 + 56))) there n (body-put l i there b e) (λ x. slot x.number x.body m) (mask-put l₁ i (rw n there) m s)

-- number, body and mask
pub slot-put : (l : List ℕ) (i : ℕ) → i < length l / 64 → (k : ℕ) (b : List ℕ) (m : ℕ) → k < 4294967296 → length b ≡ 52 → m < 2 ^ 64
    → slots_of (put64 (put (put32 l (i * 64) k) (i * 64 + 4) b) (i * 64 + 56) m) ≡ set (slots_of l) i (slot k b m)
slot-put l i there k b m sk e s =
    let l₁ : List ℕ = put32 l (i * 64) k in
    let n : length l₁ ≡ length l = length-put32 l (i * 64) k (omega arith) in
    behind l l₁ (put64 (put l₁ (i * 64 + 4) b) (i * 64 + 56) m) i (slot k (field 52 (i * 64 + 4) l) (u64_at l (i * 64 + 56))) there n (number_put l i there k sk) (λ x. slot x.number b m)
    (body-mask-put l₁ i (rw n there) b m e s)

-- the version of slot i of t, with a mask, in entry e of s
pub shelved_put : (t s : List ℕ) (i e m : ℕ) → i < length t / 64 → e < length s / 64 → m < 2 ^ 64
    → slots_of (put64 (put s (e * 64) (field 56 (i * 64) t)) (e * 64 + 56) m) ≡ set (slots_of s) e (slot (u32_at t (i * 64)) (field 52 (i * 64 + 4) t) m)
unfolding u32_at
shelved_put t s i e m hi he sm =
    let vs : List ℕ = field 56 (i * 64) t in
    let nv : length vs ≡ 56 = length-field 56 (i * 64) t (omega arith) in
    let s₁ : List ℕ = put s (e * 64) vs in
    let n : length s₁ ≡ length s = length-put s (e * 64) vs (omega arith) in
    behind s s₁ (put64 s₁ (e * 64 + 56) m) e (slot (u32_at vs 0) (field 52 4 vs) (u64_at s (e * 64 + 56))) he n (version-put s e he vs nv) (λ x. slot x.number x.body m) (mask-put s₁ e (rw n he) m sm)
    ∙ rw (field-field 4 0 56 (i * 64) t (omega arith) (omega arith), field-field 52 4 56 (i * 64) t (omega arith) (omega arith), add-zero (i * 64)) refl

-- ---- the rules of the changes

pub status_small : (m : Rattle.rules.specs.Masks.Masks) → new_status m < 2 ^ 64
unfolding new_status STATUS_MASK_UPD
status_small m = not_small 64 _

module _ (d t s : List ℕ) (i : ℕ) (there : i < length t / 64) where
  pub m_at_lem : m_of (masks_of d) (u64_at t (i * 64 + 56)) ≡ m_at (store_of d t s) i
  unfolding store_of desk_of
  m_at_lem = rw (at t i there) refl

  pub inserted-spelt : (k : ℕ) (b : List ℕ) → k < 4294967296 → length b ≡ 52 → empty_slot (slots_of t) ≡ i
      → store_of d (put64 (put (put32 t (i * 64) k) (i * 64 + 4) b) (i * 64 + 56) (new_status (masks_of d))) s ≡ inserted (store_of d t s) k b
  unfolding store_of desk_of inserted
  inserted-spelt k b sk e h = rw (slot-put t i there k b (new_status (masks_of d)) sk e (status_small (masks_of d)), h) refl

  pub modified-spelt : (b : List ℕ) → length b ≡ 52 → store_of d (put t (i * 64 + 4) b) s ≡ changed_by true (store_of d t s) i (some b)
  unfolding store_of desk_of changed_by
  modified-spelt b e = rw (at t i there, body-put t i there b e) refl

  pub deleted-spelt : store_of d (put t (i * 64) (replicate 64 0)) s ≡ changed_by true (store_of d t s) i none
  unfolding store_of desk_of changed_by
  deleted-spelt = rw (clear_put t i there) refl

  -- with the present version on the shelf
  module _ (e m : ℕ) (he : e < length s / 64) (entry : shelf_entry (store_of d t s) ≡ e) (sm : m < 2 ^ 64) (em : m ≡ m_at (store_of d t s) i) where
    pub modified_shelved_spelt : (b : List ℕ) → length b ≡ 52
        → store_of d (put64 (put t (i * 64 + 4) b) (i * 64 + 56) (new_status (masks_of d))) (put64 (put s (e * 64) (field 56 (i * 64) t)) (e * 64 + 56) m) ≡ changed_by false (store_of d t s) i (some b)
    unfolding store_of desk_of changed_by
    modified_shelved_spelt b eb =
        rw (at t i there, body-mask-put t i there b (new_status (masks_of d)) eb (status_small (masks_of d)), shelved_put t s i e m there he sm, entry, em, at t i there) refl

    pub deleted_shelved_spelt : store_of d (put t (i * 64) (replicate 64 0)) (put64 (put s (e * 64) (field 56 (i * 64) t)) (e * 64 + 56) m) ≡ changed_by false (store_of d t s) i none
    unfolding store_of desk_of changed_by
    deleted_shelved_spelt = rw (clear_put t i there, shelved_put t s i e m there he sm, entry, em, at t i there) refl
