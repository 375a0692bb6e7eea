-- A desk is sound exactly when no rule is the first broken one.
use mathlib.Core.Path.{◌≡◌, refl, sym, ap, ◌∙◌}
use mathlib.Core.Bool.{Bool, true, false, ◌&&◌, false≢true}
use mathlib.Core.Option.{Option, none, some}
use mathlib.Core.List.{[], ◌∷◌, ◌++◌}
use Rattle.rules.specs.Memory.{Store}
use Rattle.rules.specs.Sound.{Field, Rules, all_hold, broken, desk_rules, sound}

holds-broken : (rs : Rules) → all_hold rs ≡ true → broken rs ≡ none
unfolding all_hold broken
holds-broken [] e = refl
holds-broken (r ∷ rs) e = go (holds-broken rs) r.0 e
  where
    go : (all_hold rs ≡ true → broken rs ≡ none) → (b : Bool) → b && all_hold rs ≡ true → ◌≡◌ {A = Option Field} (elim b [ true ↦ broken rs | false ↦ some r.1 ]) none
    go ih true f = ih f
    go ih false f = absurd (false≢true f)

broken-holds : (rs : Rules) → broken rs ≡ none → all_hold rs ≡ true
unfolding all_hold broken
broken-holds [] e = refl
broken-holds (r ∷ rs) e = go (broken-holds rs) r.0 e
  where
    go : (broken rs ≡ none → all_hold rs ≡ true) → (b : Bool) → ◌≡◌ {A = Option Field} (elim b [ true ↦ broken rs | false ↦ some r.1 ]) none → b && all_hold rs ≡ true
    go ih true f = ih f
    go ih false f = cc

pub sound_unbroken : (S : Store) → sound S ≡ true → broken (desk_rules S) ≡ none
unfolding sound
sound_unbroken S e = holds-broken (desk_rules S) e

pub unbroken_sound : (S : Store) → broken (desk_rules S) ≡ none → sound S ≡ true
unfolding sound
unbroken_sound S e = broken-holds (desk_rules S) e

-- ---- the rules of one list and of another

and_assoc : (a b c : Bool) → (a && b) && c ≡ a && (b && c)
and_assoc true b c = refl
and_assoc false b c = refl

pub holds-append : (a b : Rules) → all_hold (a ++ b) ≡ all_hold a && all_hold b
unfolding all_hold
holds-append [] b = refl
holds-append (r ∷ rs) b = ap (λ (x : Bool). r.0 && x) (holds-append rs b) ∙ sym (and_assoc r.0 (all_hold rs) (all_hold b))
