-- The slots after a version is handed out, and the version in the hand-out buffer.
use mathlib.Core.Path.{◌≡◌, refl, sym, ◌∙◌}
use mathlib.Core.List.{List}
use Prim.Native.Nat.{ℕ, ◌+◌, ◌*◌, ◌/◌, ◌<◌}
use native.Mathlib.Omega.{arith}
use lib.Bits.{bit_or, bit_xor, or_lt, xor_lt}
use lib.ListN.{length, set, replicate}
use borrow.Author.Tests.{eq-eqb, ne_eqb}
use Rattle.rules.specs.Bytes.{field, u32_at, u64_at}
use Rattle.rules.specs.Calls.{slot_in}
use Rattle.rules.specs.Masks.{ones, scan_mask, STATUS_MASK_SCAN_UPD, REMSET_MASK_UPD}
use Rattle.rules.specs.Memory.{slots_of, version}
use Rattle.rules.specs.Next.{flipped, taken}
use Rattle.rules.proofs.Bytes.{Bytes, glue, to_le-field, length-field}
use Rattle.layout.specs.Puts.{put, put64}
use Rattle.layout.proofs.Fields.{put_whole}
use Rattle.joins.proofs.Slots.{at, mask-put, clear_put}

pub version_at : (l : List ℕ) (i : ℕ) → i < length l / 64 → Bytes l → field 56 (i * 64) l ≡ version (slot_in (slots_of l) i)
unfolding u32_at
version_at l i there bytes = rw (at l i there, to_le-field 4 (i * 64) l bytes (omega arith)) (sym (glue 4 52 (i * 64) (i * 64 + 4) l refl))

-- 56 bytes over the whole hand-out buffer
pub handed_out : (o l : List ℕ) (i : ℕ) → length o ≡ 56 → i < length l / 64 → Bytes l → put o 0 (field 56 (i * 64) l) ≡ version (slot_in (slots_of l) i)
handed_out o l i n there bytes = put_whole o (field 56 (i * 64) l) (length-field 56 (i * 64) l (omega arith) ∙ sym n) ∙ version_at l i there bytes

module _ (l : List ℕ) (i p : ℕ) (there : i < length l / 64) where
  pub flipped_put : u64_at l (i * 64 + 56) < 18446744073709551616 → scan_mask p < 18446744073709551616 → set (slots_of l) i (flipped (slot_in (slots_of l) i) p) ≡ slots_of (put64 l (i * 64 + 56) (bit_xor (u64_at l (i * 64 + 56)) (scan_mask p)))
  unfolding STATUS_MASK_SCAN_UPD
  flipped_put small own = rw (at l i there) (sym (mask-put l i there (bit_xor (u64_at l (i * 64 + 56)) (scan_mask p)) (xor_lt 64 _ _ small own)))

  pub taken_freed : bit_or (scan_mask p) (u64_at l (i * 64 + 56)) ≡ 18446744073709551615 → set (slots_of l) i (taken (slot_in (slots_of l) i) p) ≡ slots_of (put l (i * 64) (replicate 64 0))
  unfolding REMSET_MASK_UPD
  taken_freed all = rw (at l i there, eq-eqb (bit_or (scan_mask p) (u64_at l (i * 64 + 56))) (ones 64) all) (sym (clear_put l i there))

  pub taken_kept : u64_at l (i * 64 + 56) < 18446744073709551616 → scan_mask p < 18446744073709551616 → (bit_or (scan_mask p) (u64_at l (i * 64 + 56)) ≡ 18446744073709551615 → ⊥)
      → set (slots_of l) i (taken (slot_in (slots_of l) i) p) ≡ slots_of (put64 l (i * 64 + 56) (bit_or (scan_mask p) (u64_at l (i * 64 + 56))))
  unfolding REMSET_MASK_UPD
  taken_kept small own some =
      rw (at l i there, ne_eqb (bit_or (scan_mask p) (u64_at l (i * 64 + 56))) (ones 64) some)
      (sym (mask-put l i there (bit_or (scan_mask p) (u64_at l (i * 64 + 56))) (or_lt 64 _ _ own small)))
