-- What each answer of `keep` says of m, of the shelf and of the entry taken.
use mathlib.Core.Path.{◌≡◌, refl, sym, ap, ◌∙◌}
use mathlib.Core.Bool.{Bool, true, false}
use mathlib.Core.List.{List}
use Prim.Native.Nat.{ℕ, ◌+◌, ◌*◌, ◌-◌, ◌/◌, ◌≤◌, ◌<◌}
use native.Mathlib.Omega.{arith}
use lib.ListN.{length}
use borrow.Author.Tests.{eqb-true, eqb-false, eq-eqb, ne_eqb, ltb-true, ltb-false, lt-ltb, le-ltb}
use Rattle.std.specs.Prelude.{Result, Ok, Err}
use Rattle.rules.specs.declared.Refusal.{Refusal}
use Rattle.rules.specs.Calls.{first}
use Rattle.rules.specs.Masks.{Masks, ones}
use Rattle.rules.specs.Memory.{slots_of}
use Rattle.rules.specs.Bytes.{field}
use Rattle.layout.specs.Puts.{put, put64}
use Rattle.shelving.specs.declared.Kept.{Kept}
use Rattle.shelving.specs.Keeps.{m_in, entry_taken, shelved_in, keeps_by, keeps}
use Rattle.joins.specs.Search.{bears}
use Rattle.joins.proofs.Search.{bearing_is}

-- ---- what `keep` says

abbrev Answer : Type 0
Answer = Result Kept Refusal

-- what was answered, and the shelf
answer : {x y : Answer × List ℕ} → x ≡ y → x.0 ≡ y.0
answer e = ap (λ (x : Answer × List ℕ). x.0) e

shelf : {x y : Answer × List ℕ} → x ≡ y → x.1 ≡ y.1
shelf e = ap (λ (x : Answer × List ℕ). x.1) e

module _ (m : Masks) (t s s' : List ℕ) (i : ℕ) where
  by_unawaited : (a b : Bool) → (Ok Kept.Unawaited, s') ≡ keeps_by a b m t s i → (a ≡ true) × (s' ≡ s)
  unfolding keeps_by
  by_unawaited true b e = (refl, shelf e)
  by_unawaited false true e = let f = answer e in let z : ◌≡◌ {A = ℕ} 0 1 = cc in absurd (omega arith)
  by_unawaited false false e = let f = answer e in let z : ◌≡◌ {A = ℕ} 0 1 = cc in absurd (omega arith)

  by_shelved : (a b : Bool) → (Ok Kept.Shelved, s') ≡ keeps_by a b m t s i → (a ≡ false) × (b ≡ true) × (s' ≡ shelved_in m t s i (entry_taken s))
  unfolding keeps_by
  by_shelved true b e = let f = answer e in let z : ◌≡◌ {A = ℕ} 0 1 = cc in absurd (omega arith)
  by_shelved false true e = (refl, refl, shelf e)
  by_shelved false false e = let f = answer e in let z : ◌≡◌ {A = ℕ} 0 1 = cc in absurd (omega arith)

  by_no_room : {r : Refusal} (a b : Bool) → (Err r, s') ≡ keeps_by a b m t s i → (r ≡ Refusal.ShelfFull) × (a ≡ false) × (b ≡ false) × (s' ≡ s)
  unfolding keeps_by
  by_no_room true b e = let f = answer e in let z : ◌≡◌ {A = ℕ} 0 1 = cc in absurd (omega arith)
  by_no_room false true e = let f = answer e in let z : ◌≡◌ {A = ℕ} 0 1 = cc in absurd (omega arith)
  by_no_room false false e = let f = answer e in (cc, refl, refl, shelf e)

  pub unawaited_says : (Ok Kept.Unawaited, s') ≡ keeps m t s i → (m_in m t i ≡ ones 64) × (s' ≡ s)
  unawaited_says e = let f = by_unawaited _ _ e in (eqb-true _ _ f.0, f.1)

  pub shelved_says : (Ok Kept.Shelved, s') ≡ keeps m t s i → (m_in m t i ≡ ones 64 → ⊥) × (entry_taken s < length s / 64) × (s' ≡ shelved_in m t s i (entry_taken s))
  shelved_says e = let f = by_shelved _ _ e in (eqb-false _ _ f.0, ltb-true _ _ f.1, f.2)

  pub no_room_says : {r : Refusal} → (Err r, s') ≡ keeps m t s i → (r ≡ Refusal.ShelfFull) × (m_in m t i ≡ ones 64 → ⊥) × (length s / 64 ≤ entry_taken s) × (s' ≡ s)
  no_room_says e = let f = by_no_room _ _ e in (f.0, eqb-false _ _ f.1, ltb-false _ _ f.2, f.3)

-- ---- the ways out of `keep`

module _ (m : Masks) (t s : List ℕ) (i : ℕ) {x : ℕ} (mx : x ≡ m_in m t i) where
  pub keep-unawaited : x ≡ ones 64 → (Ok Kept.Unawaited, s) ≡ keeps m t s i
  unfolding keeps_by
  keep-unawaited h = rw (eq-eqb (m_in m t i) (ones 64) (sym mx ∙ h)) refl

  module _ (h : x ≡ ones 64 → ⊥) where
    entry : first (bears (slots_of s) 0) 0 (length s / 64 - 0) ≡ entry_taken s
    entry = sym (bearing_is s 0)

    pub keep_no_room : first (bears (slots_of s) 0) 0 (length s / 64 - 0) ≡ length s / 64 → (Err Refusal.ShelfFull, s) ≡ keeps m t s i
    unfolding keeps_by
    keep_no_room g = rw (ne_eqb (m_in m t i) (ones 64) (λ z. h (mx ∙ z)), le-ltb (entry_taken s) (length s / 64) (omega (arith, g, entry))) refl

    pub keep_shelved : {s' : List ℕ} {e : ℕ} → e ≡ first (bears (slots_of s) 0) 0 (length s / 64 - 0) → e < length s / 64 → s' ≡ put64 (put s (e * 64) (field 56 (i * 64) t)) (e * 64 + 56) x
        → (Ok Kept.Shelved, s') ≡ keeps m t s i
    unfolding keeps_by
    keep_shelved {s'} {e} ee g es =
        let taken : e ≡ entry_taken s = ee ∙ entry in
        rw (ne_eqb (m_in m t i) (ones 64) (λ z. h (mx ∙ z)), lt-ltb (entry_taken s) (length s / 64) (omega (arith, taken, g))) (ap (λ (y : List ℕ). (Ok Kept.Shelved, y)) (es ∙ rw (taken, mx) refl))
