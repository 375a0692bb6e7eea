-- A store that shelves a version at the first change only does not meet demand 3.
use mathlib.Core.Path.{◌≡◌, refl, ap, ◌∙◌, subst}
use mathlib.Core.Option.{some}
use mathlib.Core.List.Memᴰ
use mathlib.Core.List.{List, [], ◌∷◌}
use mathlib.Core.Logic.{◌⊎◌, inl, inr}
use Prim.Native.Nat.{ℕ, ◌≤◌}
use native.Mathlib.Omega.{arith}
use Rattle.demands.specs.DemandThree.{Reads, Holds, Demand3}
use Rattle.demands.specs.History.{Version, version, scan, History, history, awaits, awaited, needed, heard, tells}
use Rattle.idle.specs.Idle.{OnShelf, ShelvesOnce}
use Rattle.rules.specs.Passed.{All}
use Rattle.demands.specs.Lists.{standing}
use Rattle.demands.specs.Lives.{Accepted, bytes_after, events, past}
use Rattle.demands.specs.Machine.{Machine, Within}
use Rattle.rules.specs.Answers.{Answer}
use Rattle.rules.specs.Calls.{slot_in, used}
use Rattle.rules.specs.Memory.{slots_of}
use Rattle.rules.specs.Refusals.{Call, Change}
use Rattle.idle.proofs.InUse.{in_use_is}
use Rattle.idle.proofs.OneMore.{one_more}
use Rattle.demands.proofs.lists.Lists.{In, back, perm_in}
use Rattle.demands.proofs.lists.Places.{standing_at}
use Rattle.demands.proofs.machines.Small.{pair, body_of, body_bytes}

-- ---- a record changed twice, each version awaited by a scan of its own

abbrev pub first : List Call
first = Call.change (Change.modify 1 (body_of 2)) ∷ Call.begin ∷ Call.change (Change.insert 1 (body_of 1)) ∷ []

abbrev pub second : List Call
second = Call.change (Change.modify 1 (body_of 3)) ∷ Call.begin ∷ first

pub first-within : All Within first
first-within = ((omega arith, body_bytes 2 (omega arith)), (tt, ((omega arith, body_bytes 1 (omega arith)), tt)))

pub second_within : All Within second
second_within = ((omega arith, body_bytes 3 (omega arith)), (tt, first-within))

-- the record's versions
abbrev pub v₁ : Version
v₁ = version 1 (body_of 1) 0

abbrev pub v₂ : Version
v₂ = version 1 (body_of 2) 1

abbrev pub v₃ : Version
v₃ = version 1 (body_of 3) 2

one_number : (v : Version) → In v (v₁ ∷ []) → 1 ≤ v.number
one_number v i = go (Memᴰ.cases_cons i)
  where
    go : (v ≡ v₁) ⊎ In v [] → 1 ≤ v.number
    go (inl e) = let z : v.number ≡ 1 = ap (λ (u : Version). u.number) e in omega arith
    go (inr j) = absurd (Memᴰ.not-nil j)

two_numbers : (v : Version) → In v (v₂ ∷ v₁ ∷ []) → 1 ≤ v.number
two_numbers v i = go (Memᴰ.cases_cons i)
  where
    go : (v ≡ v₂) ⊎ In v (v₁ ∷ []) → 1 ≤ v.number
    go (inl e) = let z : v.number ≡ 1 = ap (λ (u : Version). u.number) e in omega arith
    go (inr j) = one_number v j

-- what the calls tell, accepted: before the second change, and after it
abbrev pub h₄ : History
h₄ = history 2 (v₂ ∷ []) (v₁ ∷ []) 2 (scan 2 (v₂ ∷ []) [] 0 ∷ scan 1 (v₁ ∷ []) [] 0 ∷ [])

abbrev pub h₅ : History
h₅ = history 3 (v₃ ∷ []) (v₂ ∷ v₁ ∷ []) 2 (scan 2 (v₂ ∷ []) [] 0 ∷ scan 1 (v₁ ∷ []) [] 0 ∷ [])

h₄_needs : needed h₄ ≡ v₁ ∷ []
unfolding awaits awaited
h₄_needs = refl

h₅_needs : needed h₅ ≡ v₂ ∷ v₁ ∷ []
unfolding awaits awaited
h₅_needs = refl

-- a machine that accepts the five calls
pub record AcceptsBoth (M : Machine) : Type 0 where
  pub opened : Accepted M pair
  pub inserted : (M (bytes_after M pair []) (Call.change (Change.insert 1 (body_of 1)))).answer ≡ Answer.done
  pub begun : (M (bytes_after M pair (Call.change (Change.insert 1 (body_of 1)) ∷ [])) Call.begin).answer ≡ Answer.begun 1
  pub modified : (M (bytes_after M pair (Call.begin ∷ Call.change (Change.insert 1 (body_of 1)) ∷ [])) (Call.change (Change.modify 1 (body_of 2)))).answer ≡ Answer.done
  pub again : (M (bytes_after M pair first) Call.begin).answer ≡ Answer.begun 2
  pub last : (M (bytes_after M pair (Call.begin ∷ first)) (Call.change (Change.modify 1 (body_of 3)))).answer ≡ Answer.done

module _ (M : Machine) (a : AcceptsBoth M) where
  four_told : past M pair (Call.begin ∷ first) ≡ h₄
  unfolding bytes_after events tells heard
  four_told = rw (a.inserted, a.begun, a.modified, a.again)

  pub five_told : past M pair second ≡ h₅
  unfolding heard
  five_told = one_more M pair (Call.begin ∷ first) h₄ four_told (Call.change (Change.modify 1 (body_of 3))) Answer.done a.last

module _ (M : Machine) (a : AcceptsBoth M) (d : Demand3 M) where
  -- after the second begin one entry is in use
  pub four_held : Holds (bytes_after M pair (Call.begin ∷ first)).shelf (v₁ ∷ [])
  four_held = subst (λ (l : List Version). Holds (bytes_after M pair (Call.begin ∷ first)).shelf l) (ap needed (four_told M a) ∙ h₄_needs) (d.shelf pair a.opened (Call.begin ∷ first) (tt, first-within))

  pub one_in_use : used (slots_of (bytes_after M pair (Call.begin ∷ first)).shelf) ≡ 1
  one_in_use = in_use_is (bytes_after M pair (Call.begin ∷ first)).shelf (v₁ ∷ []) four_held one_number

  -- and it bears the record's number
  pub borne : OnShelf (bytes_after M pair (Call.begin ∷ first)) 1
  borne =
      let h = four_held in
      let w = standing_at h.which v₁ (perm_in v₁ (v₁ ∷ []) (standing h.which) (back h.each) (Memᴰ.head refl)) in
      let r : Reads (slot_in (slots_of (bytes_after M pair (Call.begin ∷ first)).shelf) w.0) (some v₁) = subst (Reads (slot_in (slots_of (bytes_after M pair (Call.begin ∷ first)).shelf) w.0)) w.1 (h.spelt w.0) in
      (omega arith, (w.0, r.0))

  -- after the second change two are
  pub two_in_use : used (slots_of (bytes_after M pair second).shelf) ≡ 2
  two_in_use =
      in_use_is (bytes_after M pair second).shelf (v₂ ∷ v₁ ∷ [])
      (subst (λ (l : List Version). Holds (bytes_after M pair second).shelf l) (ap needed (five_told M a) ∙ h₅_needs) (d.shelf pair a.opened second second_within)) two_numbers

  pub shelves_once_caught : ShelvesOnce M → ⊥
  unfolding bytes_after
  shelves_once_caught f =
      let z : used (slots_of (bytes_after M pair second).shelf) ≡ used (slots_of (bytes_after M pair (Call.begin ∷ first)).shelf) =
      ap (λ (l : List ℕ). used (slots_of l)) (f (bytes_after M pair (Call.begin ∷ first)) 1 (body_of 3) borne) in
      omega (arith, one_in_use, two_in_use)
