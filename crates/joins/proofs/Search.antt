-- Bytes of a slot as the search sees them; one turn of a count.
use mathlib.Core.Path.{◌≡◌, refl, sym, ap, ◌∙◌}
use mathlib.Core.Bool.{Bool, true, false, not, ◌&&◌, ◌||◌, false≢true}
use mathlib.Core.List.{List, [], ◌∷◌}
use Prim.Native.Nat.{ℕ, zero, suc, ◌+◌, ◌*◌, ◌-◌, ◌/◌, ◌%◌, ◌≤◌, ◌<◌}
use native.Mathlib.Nat.{add-zero, sub-zero, zero-add}
use native.Mathlib.Numerals.{add-one}
use native.Mathlib.Omega.{arith}
use native.Mathlib.Decide.{dec_lt}
use lib.Bits.{bit_xor, xor_zero_l}
use lib.Dec.{eqb}
use lib.ListN.{length}
use borrow.Author.Tests.{eq-eqb, ne_eqb, eqb-true, eqb-false}
use Rattle.std.specs.Int.{from_bool}
use Rattle.rules.specs.Bytes.{u32_at, u64_at}
use Rattle.rules.specs.Calls.{first, slot_in, in_use, bearing, count as count_of}
use Rattle.rules.specs.Masks.{bit, off}
use Rattle.rules.specs.Memory.{Slot, each, slots_of}
use Rattle.rules.proofs.Bits.{bit-xor, bit_low}
use Rattle.joins.specs.Search.{bears, waiting}
use Rattle.rules.proofs.First.{first_found, first-before, first_split_none, first_most, first-same}
use Rattle.joins.proofs.Slots.{count, at}

-- ---- slot i of a buffer

pub waits_at : (l : List ℕ) (flip p i : ℕ) → i < length l / 64
    → waiting flip p (slot_in (slots_of l) i) ≡ not (eqb (u32_at l (i * 64)) 0) && off (bit_xor flip (u64_at l (i * 64 + 56))) p
waits_at l flip p i h = rw (at l i h) refl

-- the lowest slot that bears k, as a search of the bytes' slots
pub bearing_is : (l : List ℕ) (k : ℕ) → bearing (slots_of l) k ≡ first (bears (slots_of l) k) 0 (length l / 64 - 0)
bearing_is l k = rw (count l, sub-zero (length l / 64)) refl

-- ---- one turn of a count

count_cons : (p : Slot → Bool) (s : Slot) (ss : List Slot) → count_of p (s ∷ ss) ≡ from_bool (p s) + count_of p ss
unfolding count_of
count_cons p s ss = go (p s) refl
  where
    go : (b : Bool) → p s ≡ b → elim (p s) as (λ (x : Bool). ℕ) [ true ↦ suc (count_of p ss) | false ↦ count_of p ss ] ≡ from_bool (p s) + count_of p ss
    go true e = rw (e) (sym (add-one (count_of p ss) ∙ refl) ∙ omega arith)
    go false e = rw (e) (sym (zero-add (count_of p ss)))

module _ (p : Slot → Bool) (f : ℕ → Slot) (i s : ℕ) where
  pub count_turn : i < s → count_of p (each f i (s - i)) ≡ from_bool (p (f i)) + count_of p (each f (i + 1) (s - (i + 1)))
  unfolding each
  count_turn h = let z : s - i ≡ suc (s - suc i) = omega arith in rw (z, add-one i) (count_cons p (f i) (each f (suc i) (s - suc i)))

  pub count_end : s ≤ i → count_of p (each f i (s - i)) ≡ 0
  unfolding each count_of
  count_end h = let z : s - i ≡ 0 = omega arith in rw z refl

-- past slots that fail
pub count_past : (p : Slot → Bool) (f : ℕ → Slot) (s n i : ℕ) → i + n ≤ s → ((j : ℕ) → i ≤ j → j < i + n → p (f j) ≡ false) → count_of p (each f i (s - i)) ≡ count_of p (each f (i + n) (s - (i + n)))
count_past p f s zero i h e = rw (add-zero i) refl
count_past p f s (suc n) i h e =
    let x : i + 1 + n ≡ i + suc n = omega arith in
    count_turn p f i s (omega arith) ∙ rw (e i (omega arith) (omega arith), zero-add (count_of p (each f (i + 1) (s - (i + 1)))))
    (rw x at (count_past p f s n (i + 1) (omega arith) (λ j lo hi. e j (omega arith) (omega arith))))

pub count_most : (p : Slot → Bool) (l : List Slot) → count_of p l ≤ length l
unfolding count_of
count_most p [] = omega arith
count_most p (s ∷ ss) = go (count_most p ss) (p s) refl
  where
    go : count_of p ss ≤ length ss → (b : Bool) → p s ≡ b → elim (p s) as (λ (x : Bool). ℕ) [ true ↦ suc (count_of p ss) | false ↦ count_of p ss ] ≤ suc (length ss)
    go most true e = rw e (omega arith)
    go most false e = rw e (omega arith)

-- ---- document 01's tests of owed and of a shelf look, as the search has them

pub equal_is_off : (stable status p : ℕ) → eqb (bit status p) (bit stable p) ≡ off (bit_xor stable status) p
equal_is_off stable status p = go (eqb (bit status p) (bit stable p)) refl
  where
    x : bit (bit_xor stable status) p ≡ (bit stable p + bit status p) % 2
    x = bit-xor stable status p

    go : (b : Bool) → eqb (bit status p) (bit stable p) ≡ b → b ≡ off (bit_xor stable status) p
    go true e = sym (eq-eqb (bit (bit_xor stable status) p) 0 (omega (arith, x, eqb-true (bit status p) (bit stable p) e, bit_low stable p)))
    go false e = sym (ne_eqb (bit (bit_xor stable status) p) 0 (λ z. eqb-false (bit status p) (bit stable p) e (omega (arith, x, bit_low stable p, bit_low status p))))

pub waiting-shelf : (p : ℕ) (s : Slot) → waiting 0 p s ≡ in_use s && off s.mask p
waiting-shelf p s = rw (xor_zero_l s.mask) refl

pub count_same : (p q : Slot → Bool) → ((s : Slot) → p s ≡ q s) → (l : List Slot) → count_of p l ≡ count_of q l
unfolding count_of
count_same p q e [] = refl
count_same p q e (s ∷ ss) = count_cons p s ss ∙ rw (e s, count_same p q e ss) (sym (count_cons q s ss))

-- ---- insert's one pass: the first slot that bears the number or is empty

module _ (p e : ℕ → Bool) (n : ℕ) where
  not_left : (x y : Bool) → x || y ≡ false → x ≡ false
  not_left true y h = h
  not_left false y h = refl

  -- no slot below it bears the number
  pub pass_number : first p 0 n ≡ first p (first (λ j. p j || e j) 0 n) (n - first (λ j. p j || e j) 0 n)
  pass_number =
      let a : ℕ = first (λ j. p j || e j) 0 n in
      let most : a ≤ n = omega (arith, first_most (λ j. p j || e j) 0 n) in
      let whole : n ≡ a + (n - a) = omega arith in
      ap (first p 0) whole ∙ first_split_none p 0 a (n - a) (none a (λ j h. not_left (p j) (e j) (first-before (λ i. p i || e i) 0 n j (omega arith) h)))
      ∙ ap (λ (x : ℕ). first p x (n - a)) (zero-add a)
    where
      none : (a : ℕ) → ((j : ℕ) → j < a → p j ≡ false) → 0 + a ≤ first p 0 a
      none a f = go (dec_lt (first p 0 a) (0 + a))
        where
          go : Dec (first p 0 a < 0 + a) → 0 + a ≤ first p 0 a
          go (yes d) = absurd (false≢true (sym (f (first p 0 a) (omega arith)) ∙ first_found p 0 a d))
          go (no d) = omega arith

  -- where the number is not there, it is the lowest empty slot
  pub pass_empty : n ≤ first p 0 n → first (λ j. p j || e j) 0 n ≡ first e 0 n
  pass_empty h = first-same (λ j. p j || e j) e 0 n (λ j lo hi. rw (first-before p 0 n j lo (omega arith)) refl)
