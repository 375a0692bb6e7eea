-- Any machine with demand 2 then hands the second version to the second scan, and the third to a scan that begins now.
use mathlib.Core.Path.{◌≡◌, ap, ◌∙◌}
use mathlib.Core.List.Memᴰ
use mathlib.Core.List.{List, [], ◌∷◌, map}
use Prim.Native.Nat.{ℕ, ◌+◌, ◌<◌}
use native.Mathlib.Omega.{arith}
use Rattle.demands.specs.DemandTwo.{Goes, Fulfils, Demand2}
use Rattle.demands.specs.History.{Version, scan, History, history, reads, heard}
use Rattle.idle.specs.Idle.{buffer}
use Rattle.demands.specs.Lives.{bytes_after, past}
use Rattle.demands.specs.Machine.{Machine, Within}
use Rattle.demands.specs.Reasons.{reasons}
use Rattle.rules.specs.Answers.{Answer, Draw}
use Rattle.rules.specs.Refusals.{Call, first_of}
use Rattle.idle.proofs.BothAccepted.{both_accepted}
use Rattle.demands.proofs.lists.Lists.{perm_length}
use Rattle.idle.proofs.OneMore.{one_more, answered}
use Rattle.idle.proofs.ShelvesOnce.{second, second_within, v₁, v₂, v₃, h₅, five_told}
use Rattle.demands.proofs.machines.Small.{small, pair}
use Rattle.stores.proofs.Sizes.{zero-bytes}

-- what the five calls tell, and a third begin
abbrev h₆ : History
h₆ = history 3 (v₃ ∷ []) (v₂ ∷ v₁ ∷ []) 3 (scan 3 (v₃ ∷ []) [] 0 ∷ scan 2 (v₂ ∷ []) [] 0 ∷ scan 1 (v₁ ∷ []) [] 0 ∷ [])

-- a look at each place
abbrev pub ask : ℕ → Call
ask t = Call.next t 3 buffer

pub ask_within : (t : ℕ) → t < 4294967296 → Within (ask t)
unfolding buffer
ask_within t h = (h, omega arith, zero-bytes 56)

-- a scan that began with one version is handed it
handed_it : (t : ℕ) (v : Version) (u : List ℕ) (a : Answer) → Goes 1 2 (scan t (v ∷ []) [] 0) 3 u a → u ≡ reads v
handed_it t v u (Answer.drew (Draw.in_hand x y)) g = g.0.3 ∙ ap reads (Memᴰ.eq_of_singleton g.0.1)
handed_it t v u (Answer.drew (Draw.paused x)) g = let a : x ≡ 3 = g.0 in let b : 0 + x < 1 + 2 = g.1 in absurd (omega arith)
handed_it t v u (Answer.drew (Draw.finished x y z)) g = let e : ◌≡◌ {A = ℕ} 0 1 = perm_length [] (map reads (v ∷ [])) g.0 in absurd (omega arith)
handed_it t v u Answer.done g = elim g [ ]
handed_it t v u (Answer.begun _) g = elim g [ ]
handed_it t v u (Answer.shown _) g = elim g [ ]
handed_it t v u (Answer.refused _) g = elim g [ ]

module _ (M : Machine) (d : Demand2 M) where
  told₅ : past M pair second ≡ h₅
  told₅ = five_told M (both_accepted M d)

  third_begun : (M (bytes_after M pair second) Call.begin).answer ≡ Answer.begun 3
  unfolding reasons first_of Fulfils pair small
  third_begun = answered M pair second h₅ told₅ Call.begin d second_within tt

  told₆ : past M pair (Call.begin ∷ second) ≡ h₆
  unfolding heard
  told₆ = one_more M pair second h₅ told₅ Call.begin _ third_begun

  pub second_handed : (M (bytes_after M pair second) (ask 2)).out ≡ reads v₂
  unfolding reasons first_of Fulfils buffer pair small
  second_handed = handed_it 2 v₂ _ (M (bytes_after M pair second) (ask 2)).answer (answered M pair second h₅ told₅ (ask 2) d second_within (ask_within 2 (omega arith)))

  pub third_handed : (M (bytes_after M pair (Call.begin ∷ second)) (ask 3)).out ≡ reads v₃
  unfolding reasons first_of Fulfils buffer pair small
  third_handed = handed_it 3 v₃ _ (M (bytes_after M pair (Call.begin ∷ second)) (ask 3)).answer (answered M pair (Call.begin ∷ second) h₆ told₆ (ask 3) d (tt, second_within) (ask_within 3 (omega arith)))
