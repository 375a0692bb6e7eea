-- The way in of any call, lines 1 and 2.
use Rattle.std.specs.Prelude.{Bool, true, not, ◌&&◌, List, [], ◌∷◌, ◌≡◌, ℕ, length, Result, MatchResult}
use Rattle.std.specs.Borrow.{Bor}
use Rattle.std.proofs.Math.Option.{Option, none, some}
use Rattle.rules.specs.declared.Refusal.{Refusal}
use Rattle.running.specs.declared.store.Store.{Store}
use Rattle.rules.specs.Answers.{number_of}
use Rattle.rules.specs.Memory.{store_of}
use Rattle.rules.specs.Refusals.{lengths_right, first_of}
use Rattle.rules.specs.Sound.{sound}

abbrev pub or_zero : Option ℕ → ℕ
or_zero none = 0
or_zero (some k) = k

-- as one number, 0 where it is open; `own`: the call's own lengths are right; `looks`: it looks at the desk
unfoldable pub way_in : Bool → Bool → List ℕ → List ℕ → List ℕ → ℕ
way_in own looks d t s =
    or_zero (first_of ((not (own && lengths_right (length d) (length t) (length s)), 1) ∷ (looks && not (sound (store_of d t s)), 2) ∷ []))

-- the desk is let in as it is, or the line told that shuts the way
abbrev pub LetsIn : Result (Bor (List ℕ)) Refusal → Bool → Bool → List ℕ → List ℕ → List ℕ → Type 0
LetsIn r own looks d t s = MatchResult r (λ desk. (desk.now ≡ d) × (0 ≡ way_in own looks d t s)) (λ e. number_of e ≡ way_in own looks d t s)

-- the three are let in as they were lent, or that line told
abbrev pub LetsInAll : Result Store Refusal → List ℕ → Bor (List ℕ) → Bor (List ℕ) → Type 0
LetsInAll r d t s =
    MatchResult r (λ store. (store.desk.now ≡ d) × (0 ≡ way_in true true d t.now s.now) × (store.table ≡ t) × (store.shelf ≡ s)) (λ e. number_of e ≡ way_in true true d t.now s.now)
