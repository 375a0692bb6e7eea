-- What each operation of Table I does to the scan's own bit and to every other.
use mathlib.Core.Path.{◌≡◌, refl, sym, ap, ◌∙◌}
use mathlib.Core.Bool.{Bool, true, false}
use Prim.Native.Nat.{ℕ, suc, ◌+◌, ◌-◌, ◌%◌, ◌^◌, ◌<◌, min, max}
use native.Mathlib.Omega.{arith}
use native.Mathlib.Decide.{ℕ_discrete}
use lib.Bits.{bit_and, bit_or, bit_xor, xor_lt, and_le_r, and_comm}
use lib.Dec.{eqb}
use lib.Pow.{pow_pos}
use borrow.Author.Tests.{eq-eqb, ne_eqb, eqb-true, eqb-false}
use Rattle.rules.specs.Masks.{bit, off, NOT, scan_mask, Masks, cleared, walk_ended, m_of, REMSET_MASK_INS, LCL_ACTIVE_MASK_UPD, STATUS_MASK_UPD, SCAN_TABLE_READ, STABLE_FLIP, SCAN_REMSET_READ}
use Rattle.rules.proofs.Bits.{bit_low, bit-zero, bit-and, bit-or, bit-xor, bit_not, bit_ext, scan_own, scan_other, scan_small}

-- ---- a bit flipped, set, cleared

module _ (x p : ℕ) where
  pub flip_own : bit (bit_xor x (scan_mask p)) p ≡ 1 - bit x p
  flip_own = rw (bit-xor x (scan_mask p) p, scan_own p) (omega (arith, bit_low x p))

  pub flip_other : (i : ℕ) → (i ≡ p → ⊥) → bit (bit_xor x (scan_mask p)) i ≡ bit x i
  flip_other i d = rw (bit-xor x (scan_mask p) i, scan_other p i d) (omega (arith, bit_low x i))

  pub set_own : bit (bit_or x (scan_mask p)) p ≡ 1
  set_own = rw (bit-or x (scan_mask p) p, scan_own p) (omega (arith, bit_low x p))

  pub set_other : (i : ℕ) → (i ≡ p → ⊥) → bit (bit_or x (scan_mask p)) i ≡ bit x i
  set_other i d = rw (bit-or x (scan_mask p) i, scan_other p i d) (omega (arith, bit_low x i))

  module _ (h : p < 64) where
    pub clear_own : bit (cleared x p) p ≡ 0
    unfolding cleared
    clear_own = rw (bit-and x (NOT 64 (scan_mask p)) p, bit_not 64 (scan_mask p) p (scan_small 64 p h) h, scan_own p) (omega arith)

    pub clear_other : (i : ℕ) → i < 64 → (i ≡ p → ⊥) → bit (cleared x p) i ≡ bit x i
    unfolding cleared
    clear_other i k d = rw (bit-and x (NOT 64 (scan_mask p)) i, bit_not 64 (scan_mask p) i (scan_small 64 p h) k, scan_other p i d) (omega (arith, bit_low x i))

-- ---- m

-- bit i of m is 0 exactly where the scan at i walks the table and the version is stable for it
pub m_bit : (stable status local i : ℕ) → bit (REMSET_MASK_INS stable status local) i ≡ max ((bit stable i + bit status i) % 2) (bit local i)
unfolding REMSET_MASK_INS
m_bit stable status local i = rw (bit-or (bit_xor stable status) local i, bit-xor stable status i) refl

-- past its table walk a scan's bit of m is 1
pub past-walk : (m : Masks) (status p : ℕ) → bit m.local p ≡ 1 → bit (m_of m status) p ≡ 1
unfolding m_of
past-walk m status p h = omega (arith, m_bit m.stable status m.local p, bit_low m.stable p, bit_low status p)

-- ---- the end of the table walk

-- "Its active bit stays 0."
pub walk-ended-active : (m : Masks) (p : ℕ) → (walk_ended m p).active ≡ m.active
unfolding walk_ended
walk-ended-active m p = refl

-- "the scan's stable bit flips and its local active bit becomes 1"
pub walk-ended-stable : (m : Masks) (p : ℕ) → bit (walk_ended m p).stable p ≡ 1 - bit m.stable p
unfolding walk_ended STABLE_FLIP
walk-ended-stable m p = flip_own m.stable p

pub walk-ended-local : (m : Masks) (p : ℕ) → bit (walk_ended m p).local p ≡ 1
unfolding walk_ended LCL_ACTIVE_MASK_UPD
walk-ended-local m p = set_own m.local p

pub walk_ended_m : (m : Masks) (status p : ℕ) → bit (m_of (walk_ended m p) status) p ≡ 1
walk_ended_m m status p = past-walk (walk_ended m p) status p (walk-ended-local m p)

-- ---- the status of a new or changed record

module _ (w stable local i : ℕ) (hs : stable < 2 ^ w) (hl : local < 2 ^ w) (hi : i < w) where
  new_status_bit : bit (STATUS_MASK_UPD w stable local) i ≡ 1 - (bit stable i + bit local i) % 2
  unfolding STATUS_MASK_UPD
  new_status_bit = rw (bit_not w (bit_xor stable local) i (xor_lt w stable local hs hl) hi, bit-xor stable local i) refl

  -- a scan in its table walk passes a new or changed record
  pub new_passed : bit local i ≡ 0 → (bit stable i + bit (STATUS_MASK_UPD w stable local) i) % 2 ≡ 1
  new_passed e = rw (new_status_bit, e) (omega (arith, bit_low stable i))

  -- the next scan of a position that walks no table will hand it out
  pub new_handed : bit local i ≡ 1 → (bit stable i + bit (STATUS_MASK_UPD w stable local) i) % 2 ≡ 0
  new_handed e = rw (new_status_bit, e) (omega (arith, bit_low stable i))

-- a record that the scan has read or passed is stable for the next scan of its position: no status bit is cleared at begin
pub next-stable : (stable status p : ℕ) → (bit stable p + bit status p) % 2 ≡ 1 → (bit (STABLE_FLIP stable (scan_mask p)) p + bit status p) % 2 ≡ 0
unfolding STABLE_FLIP
next-stable stable status p e = rw (flip_own stable p) (omega (arith, bit_low stable p, bit_low status p))

-- ---- the two reads of Table I are document 01's tests: the scan's bit is 0

module _ (x p : ℕ) where
  off_of_zero : bit_and x (scan_mask p) ≡ 0 → bit x p ≡ 0
  off_of_zero e = omega (arith, bit_low x p, sym (bit-and x (scan_mask p) p) ∙ ap (λ (y : ℕ). bit y p) e ∙ bit-zero p, scan_own p)

  zero_of_off : bit x p ≡ 0 → bit_and x (scan_mask p) ≡ 0
  zero_of_off e =
      bit_ext (suc p) (bit_and x (scan_mask p)) 0 (omega (arith, and_le_r x (scan_mask p), scan_small (suc p) p (omega arith))) (pow_pos (suc p))
      (λ i h. bit-and x (scan_mask p) i ∙ go i (ℕ_discrete i p) ∙ sym (bit-zero i))
    where
      go : (i : ℕ) → Dec (i ≡ p) → min (bit x i) (bit (scan_mask p) i) ≡ 0
      go i (yes d) = rw (d, e) (omega arith)
      go i (no d) = rw (scan_other p i d) (omega arith)

  read_off : eqb (bit_and x (scan_mask p)) 0 ≡ off x p
  read_off = go (off x p) refl
    where
      go : (b : Bool) → off x p ≡ b → eqb (bit_and x (scan_mask p)) 0 ≡ off x p
      go true e = eq-eqb _ _ (zero_of_off (eqb-true (bit x p) 0 e)) ∙ sym e
      go false e = ne_eqb _ _ (λ z. eqb-false (bit x p) 0 e (off_of_zero z)) ∙ sym e

pub table-read : (stable status p : ℕ) → eqb (SCAN_TABLE_READ stable status (scan_mask p)) 0 ≡ off (bit_xor stable status) p
unfolding SCAN_TABLE_READ
table-read stable status p = read_off (bit_xor stable status) p

pub remset-read : (remset p : ℕ) → eqb (SCAN_REMSET_READ (scan_mask p) remset) 0 ≡ off remset p
unfolding SCAN_REMSET_READ
remset-read remset p = rw (and_comm (scan_mask p) remset) (read_off remset p)
