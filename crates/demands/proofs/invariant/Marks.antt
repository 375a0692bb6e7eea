-- What the masks of slots and entries mean.
use mathlib.Core.Path.{◌≡◌, refl, sym, ap, ◌∙◌, subst}
use mathlib.Core.Bool.{Bool, true, false, not, ◌&&◌}
use mathlib.Core.Option.{Option, none, some}
use mathlib.Core.List.{List}
use mathlib.Core.Logic.{◌⊎◌, inl, inr}
use Prim.Native.Nat.{ℕ, zero, suc, ◌+◌, ◌%◌, ◌^◌, ◌≤◌, ◌<◌, max}
use native.Mathlib.Omega.{arith}
use native.Mathlib.Decide.{ℕ_discrete}
use lib.Bits.{bit_xor}
use lib.ListN.{length, get_or, set}
use lib.Seq.{get_or-set_same, get_or-set_other}
use borrow.Author.Tests.{eqb-true, eqb-false, not-true}
use Rattle.demands.specs.History.{Version, Scan}
use Rattle.demands.specs.Masks.{one_if, waits_for}
use Rattle.rules.specs.Calls.{slot_in}
use Rattle.rules.specs.Masks.{bit, off, ones, all_ones, Masks, new_status, m_of, STATUS_MASK_UPD}
use Rattle.rules.specs.Memory.{Slot, free}
use Rattle.rules.proofs.Bits.{bit_low, bit-xor, bit_ext, bit-ones}
use Rattle.rules.proofs.TableOne.{m_bit, new_passed, new_handed}
use Rattle.demands.proofs.invariant.Moment.{Moment, looks_o, end, aw, place_in, Row}
use Rattle.demands.proofs.lists.Places.{At}

-- two lists that agree place by place still do after one place of both is set
pub set_both : {A B : Type 0} (P Q : ℕ → A → B → Type 0) (d : A) (e : B) (t : List A) (g : List B) (j : ℕ) → j < length t → j < length g → (a : A) (b : B) → Q j a b
    → ((i : ℕ) → (i ≡ j → ⊥) → P i (get_or t i d) (get_or g i e) → Q i (get_or t i d) (get_or g i e)) → ((i : ℕ) → P i (get_or t i d) (get_or g i e)) → (i : ℕ) → Q i (get_or (set t j a) i d) (get_or (set g j b) i e)
set_both P Q d e t g j ht hg a b q f h i = go (ℕ_discrete i j)
  where
    go : Dec (i ≡ j) → Q i (get_or (set t j a) i d) (get_or (set g j b) i e)
    go (yes z) = rw (z, get_or-set_same t j a d ht, get_or-set_same g j b e hg) q
    go (no z) = rw (get_or-set_other t j i a d z, get_or-set_other g j i b e z) (f i z (h i))

-- ---- a mask and a test, position by position

pub one-zero : (b : Bool) → one_if b ≡ 0 → b ≡ false
one-zero true e = absurd (omega arith)
one-zero false e = refl

pub one-one : (b : Bool) → one_if b ≡ 1 → b ≡ true
one-one true e = refl
one-one false e = absurd (omega arith)

-- a position that passes, or none below n
pub search : (p : ℕ → Bool) (n : ℕ) → ((i : ℕ) × (i < n) × (p i ≡ true)) ⊎ ((i : ℕ) → i < n → p i ≡ false)
search p zero = inr (λ i h. absurd (omega arith))
search p (suc n) = go (search p n) (p n) refl
  where
    go : ((i : ℕ) × (i < n) × (p i ≡ true)) ⊎ ((i : ℕ) → i < n → p i ≡ false) → (b : Bool) → p n ≡ b → ((i : ℕ) × (i < suc n) × (p i ≡ true)) ⊎ ((i : ℕ) → i < suc n → p i ≡ false)
    go (inl w) b e = let h : w.0 < n = w.1 in inl (w.0, omega arith, w.2)
    go (inr f) true e = inl (n, omega arith, e)
    go (inr f) false e = inr (λ i h. last i h (ℕ_discrete i n))
      where
        last : (i : ℕ) → i < suc n → Dec (i ≡ n) → p i ≡ false
        last i h (yes z) = rw z e
        last i h (no z) = f i (omega arith)

-- a mask whose bits are 0 exactly where the test passes
module _ (x : ℕ) (a : ℕ → Bool) (small : x < 2 ^ 64) (bits : (i : ℕ) → i < 64 → bit x i ≡ one_if (not (a i))) where
  pub ones_none : all_ones 64 x ≡ true → (i : ℕ) → i < 64 → a i ≡ false
  ones_none e i h =
      let z : bit x i ≡ 1 = ap (λ (y : ℕ). bit y i) (eqb-true x (ones 64) e) ∙ bit-ones 64 i h in
      not-true (a i) (one-one (not (a i)) (sym (bits i h) ∙ z))

  pub some-zero : all_ones 64 x ≡ false → (i : ℕ) × (i < 64) × (a i ≡ true)
  some-zero e = go (search a 64)
    where
      go : ((i : ℕ) × (i < 64) × (a i ≡ true)) ⊎ ((i : ℕ) → i < 64 → a i ≡ false) → (i : ℕ) × (i < 64) × (a i ≡ true)
      go (inl w) = w
      go (inr f) = absurd (eqb-false x (ones 64) e (bit_ext 64 x (ones 64) small (omega arith) (λ i h. bits i h ∙ ap (λ (b : Bool). one_if (not b)) (f i h) ∙ sym (bit-ones 64 i h))))

-- ---- slots and entries

-- a slot that spells version v: what its mask shows is 0 where a scan awaits it, and none that is past its place does
pub record Spells (seats : List (Option Scan)) (all : ℕ) (shows : ℕ → ℕ) (speaks : ℕ → Bool) (place : ℕ) (s : Slot) (v : Version) : Type 0 where
  pub number : s.number ≡ v.number
  pub some : 1 ≤ s.number
  pub body : s.body ≡ v.body
  pub bits : (i : ℕ) → i < 64 → bit (shows s.mask) i ≡ one_if (speaks i && not (waits_for (get_or seats i none) v))
  pub passed : (i : ℕ) → i < 64 → place < looks_o all (get_or seats i none) → waits_for (get_or seats i none) v ≡ false

module _ (m : Moment) (w : Row) where
  abbrev pub Is : ℕ → Slot → Version → Type 0
  Is j s v = Spells m.seats (end m) w.shows w.speaks (w.place j) s v

  abbrev pub OK : ℕ → Slot → Option Version → Type 0
  OK j s none = s ≡ free
  OK j s (some v) = Is j s v

  -- every slot of the row
  abbrev pub Marked : Type 0
  Marked = (j : ℕ) → OK j (slot_in w.slots j) (get_or w.versions j none)

  pub is_at : Marked → (j : ℕ) (v : Version) → At w.versions j v → Is j (slot_in w.slots j) v
  is_at h j v e = subst (OK j (slot_in w.slots j)) e (h j)

-- bit i of m is 0 exactly where the scan at i awaits the version: `a`
pub m_means : (k : Masks) (x i : ℕ) (a : Bool) → (bit k.local i ≡ 1 → a ≡ false) → bit (bit_xor k.stable x) i ≡ one_if (off k.local i && not a) → bit (m_of k x) i ≡ one_if (not a)
unfolding m_of
m_means k x i a beyond e = m_bit k.stable x k.local i ∙ go (off k.local i) refl (sym (bit-xor k.stable x i) ∙ e)
  where
    go : (b : Bool) → off k.local i ≡ b → (bit k.stable i + bit x i) % 2 ≡ one_if (off k.local i && not a) → max ((bit k.stable i + bit x i) % 2) (bit k.local i) ≡ one_if (not a)
    go true e f =
        let l : bit k.local i ≡ 0 = eqb-true _ _ e in
        let y : (bit k.stable i + bit x i) % 2 ≡ one_if (not a) = f ∙ ap (λ (b : Bool). one_if (b && not a)) e in
        omega arith
    go false e f =
        let l : bit k.local i ≡ 1 = omega (arith, bit_low k.local i, eqb-false (bit k.local i) 0 e) in
        let y : one_if (not a) ≡ 1 = ap (λ (b : Bool). one_if (not b)) (beyond l) in
        omega (arith, bit_low k.stable i)

-- a status that a change writes marks a version that nobody awaits
pub new_bits : (k : Masks) → k.stable < 2 ^ 64 → k.local < 2 ^ 64 → (i : ℕ) → i < 64 → bit (bit_xor k.stable (new_status k)) i ≡ one_if (off k.local i && true)
unfolding new_status
new_bits k hs hl i h = bit-xor k.stable (STATUS_MASK_UPD 64 k.stable k.local) i ∙ go (off k.local i) refl
  where
    go : (b : Bool) → off k.local i ≡ b → (bit k.stable i + bit (STATUS_MASK_UPD 64 k.stable k.local) i) % 2 ≡ one_if (off k.local i && true)
    go true e = new_passed 64 k.stable k.local i hs hl h (eqb-true _ _ e) ∙ sym (ap (λ (b : Bool). one_if (b && true)) e)
    go false e = new_handed 64 k.stable k.local i hs hl h (omega (arith, bit_low k.local i, eqb-false (bit k.local i) 0 e)) ∙ sym (ap (λ (b : Bool). one_if (b && true)) e)

-- ---- the same row a moment later, where the scan of one position has moved

module _ (m n : Moment) (p : ℕ) (others : (i : ℕ) → (i ≡ p → ⊥) → get_or n.seats i none ≡ get_or m.seats i none) (all : end n ≡ end m) (a b : Row) (places : (j : ℕ) → b.place j ≡ a.place j)
    (speaks : (i : ℕ) → i < 64 → (i ≡ p → ⊥) → b.speaks i ≡ a.speaks i) where
  pub is_still : (j : ℕ) (s s' : Slot) (v : Version) → s'.number ≡ s.number → s'.body ≡ s.body → ((i : ℕ) → i < 64 → (i ≡ p → ⊥) → bit (b.shows s'.mask) i ≡ bit (a.shows s.mask) i)
      → (p < 64 → bit (b.shows s'.mask) p ≡ one_if (b.speaks p && not (aw n p v))) → (p < 64 → b.place j < place_in n p → aw n p v ≡ false) → Is m a j s v → Is n b j s' v
  is_still j s s' v en eb em own past q =
      record { number = en ∙ q.number; some = rw en q.some; body = eb ∙ q.body; bits = λ i h. bits i h (ℕ_discrete i p); passed = λ i h g. passed i h g (ℕ_discrete i p) }
    where
      bits : (i : ℕ) → i < 64 → Dec (i ≡ p) → bit (b.shows s'.mask) i ≡ one_if (b.speaks i && not (aw n i v))
      bits i h (yes z) = rw z (own (rw z at h))
      bits i h (no z) = em i h z ∙ q.bits i h ∙ sym (λ x. one_if (speaks i h z x && not (waits_for (others i z x) v)))

      passed : (i : ℕ) → i < 64 → b.place j < place_in n i → Dec (i ≡ p) → aw n i v ≡ false
      passed i h g (yes z) = rw z (past (rw z at h) (rw z at g))
      passed i h g (no z) = ap (λ (o : Option Scan). waits_for o v) (others i z) ∙ q.passed i h (rw (others i z, all, places j) at g)

-- the same slots, each of them carried over
pub marked_map : (m n : Moment) (a b : Row) (slots : List Slot) (vs : List (Option Version)) → ((j : ℕ) (v : Version) → At vs j v → Is m a j (slot_in slots j) v → Is n b j (slot_in slots j) v)
    → ((j : ℕ) → OK m a j (slot_in slots j) (get_or vs j none)) → (j : ℕ) → OK n b j (slot_in slots j) (get_or vs j none)
marked_map m n a b slots vs f h j = go (get_or vs j none) refl (h j)
  where
    go : (o : Option Version) → get_or vs j none ≡ o → OK m a j (slot_in slots j) o → OK n b j (slot_in slots j) o
    go none e q = q
    go (some v) e q = f j v e q
