-- The first refusal of a list.
use mathlib.Core.Path.{◌≡◌, refl, sym, ◌∙◌}
use mathlib.Core.Bool.{Bool, true, false}
use mathlib.Core.Option.{none, some}
use mathlib.Core.List.{List, [], ◌∷◌}
use Prim.Native.Nat.{ℕ}
use native.Mathlib.Omega.{arith}
use Rattle.rules.specs.Refusals.{first_of}

abbrev pub Untrue : List (Bool × ℕ) → Type 0
Untrue [] = Unit
Untrue (t ∷ ts) = (t.0 ≡ false) × Untrue ts

pub none-holds : (ts : List (Bool × ℕ)) → first_of ts ≡ none → Untrue ts
unfolding first_of
none-holds [] e = tt
none-holds (t ∷ ts) e = go t.0 refl (none-holds ts)
  where
    go : (b : Bool) → t.0 ≡ b → (first_of ts ≡ none → Untrue ts) → (t.0 ≡ false) × Untrue ts
    go true q ih = absurd (clash (sym (rw q refl) ∙ e))
      where
        clash : some t.1 ≡ none → ⊥
        clash f = let z : ◌≡◌ {A = ℕ} 0 1 = cc in omega arith
    go false q ih = (q, ih (sym (rw q refl) ∙ e))

pub no_refusal : first_of [] ≡ none
unfolding first_of
no_refusal = refl

-- ---- lists of tests that come to the same

pub same_first : (a b : Bool) (k : ℕ) (ts us : List (Bool × ℕ)) → a ≡ b → (b ≡ false → first_of ts ≡ first_of us) → first_of ((a, k) ∷ ts) ≡ first_of ((b, k) ∷ us)
unfolding first_of
same_first a true k ts us e f = rw e refl
same_first a false k ts us e f = rw e (f refl)

pub holds-first : (k : ℕ) (ts : List (Bool × ℕ)) → first_of ((true, k) ∷ ts) ≡ some k
unfolding first_of
holds-first k ts = refl

pub skip_first : (a : Bool) (k : ℕ) (ts : List (Bool × ℕ)) → a ≡ false → first_of ((a, k) ∷ ts) ≡ first_of ts
unfolding first_of
skip_first a k ts e = rw e refl
