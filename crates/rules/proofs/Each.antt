-- Laws of a list that is given by index.
use mathlib.Core.Path.{◌≡◌, refl, sym, ap, ◌∙◌}
use Prim.Native.Nat.{ℕ, zero, suc, ◌+◌, ◌<◌}
use native.Mathlib.Nat.{add-suc, add-zero, suc-add, zero-add}
use native.Mathlib.Omega.{arith}
use native.Mathlib.Decide.{ℕ_discrete}
use lib.ListN.{length, get_or, set, length-set}
use lib.Seq.{ext_get_or, get_or-set_same, get_or-set_other}
use Rattle.rules.specs.Memory.{each}

module _ {A : Type 0} where
  pub length-each : (f : ℕ → A) (i n : ℕ) → length (each f i n) ≡ n
  unfolding each
  length-each f i zero = refl
  length-each f i (suc n) = ap suc (length-each f (suc i) n)

  get_or-each : (f : ℕ → A) (i n j : ℕ) (d : A) → j < n → get_or (each f i n) j d ≡ f (i + j)
  unfolding each
  get_or-each f i zero j d h = absurd (omega arith)
  get_or-each f i (suc n) zero d h = rw (add-zero i) refl
  get_or-each f i (suc n) (suc j) d h = get_or-each f (suc i) n j d (omega arith) ∙ ap f (suc-add i j ∙ sym (add-suc i j))

  pub at_each : (f : ℕ → A) (n j : ℕ) (d : A) → j < n → get_or (each f 0 n) j d ≡ f j
  at_each f n j d h = get_or-each f 0 n j d h ∙ ap f (zero-add j)

  -- two that agree at every index below n
  pub each_same : (f g : ℕ → A) (n : ℕ) (d : A) → ((j : ℕ) → j < n → g j ≡ f j) → each g 0 n ≡ each f 0 n
  each_same f g n d e =
      ext_get_or d (each g 0 n) (each f 0 n) (length-each g 0 n ∙ sym (length-each f 0 n))
      (λ j q. let z : j < n = rw (length-each g 0 n) at q in at_each g n j d z ∙ e j z ∙ sym (at_each f n j d z))

  -- two that agree at every index below n but p
  pub each_set : (f g : ℕ → A) (n p : ℕ) (d : A) → p < n → ((j : ℕ) → j < n → (j ≡ p → ⊥) → g j ≡ f j) → each g 0 n ≡ set (each f 0 n) p (g p)
  each_set f g n p d h e =
      ext_get_or d (each g 0 n) (set (each f 0 n) p (g p)) (length-each g 0 n ∙ sym (length-set (each f 0 n) p (g p) ∙ length-each f 0 n))
      (λ j q. let z : j < n = rw (length-each g 0 n) at q in at_each g n j d z ∙ go j z (ℕ_discrete j p))
    where
      go : (j : ℕ) → j < n → Dec (j ≡ p) → g j ≡ get_or (set (each f 0 n) p (g p)) j d
      go j z (yes q) = rw q (sym (get_or-set_same (each f 0 n) p (g p) d (rw (length-each f 0 n) h)))
      go j z (no q) = e j z q ∙ sym (get_or-set_other (each f 0 n) p j (g p) d q ∙ at_each f n j d z)
