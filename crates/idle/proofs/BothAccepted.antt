-- Any machine with demand 2 accepts a record's insert, a scan, a change, another scan and another change.
use mathlib.Core.Path.{◌≡◌, refl}
use mathlib.Core.List.{List, [], ◌∷◌}
use Rattle.demands.specs.DemandTwo.{Fulfils, Demand2}
use Rattle.demands.specs.History.{scan, History, history, awaits, awaited, heard, tells}
use Rattle.demands.specs.Lives.{bytes_after, events, past}
use Rattle.demands.specs.Machine.{Machine}
use Rattle.demands.specs.Reasons.{reasons}
use Rattle.rules.specs.Answers.{Answer}
use Rattle.rules.specs.Refusals.{Call, Change, first_of}
use Rattle.idle.proofs.OneMore.{one_more, answered}
use Rattle.idle.proofs.ShelvesOnce.{AcceptsBoth, first, first-within, second_within, v₁, v₂, h₄}
use Rattle.demands.proofs.machines.Small.{small, pair, body_of}

-- what the first three calls tell
abbrev h₁ : History
h₁ = history 1 (v₁ ∷ []) [] 0 []

abbrev pub h₂ : History
h₂ = history 1 (v₁ ∷ []) [] 1 (scan 1 (v₁ ∷ []) [] 0 ∷ [])

abbrev h₃ : History
h₃ = history 2 (v₂ ∷ []) (v₁ ∷ []) 1 (scan 1 (v₁ ∷ []) [] 0 ∷ [])

module _ (M : Machine) (d : Demand2 M) where
  abbrev said : List Call → Call → Answer
  said cs c = (M (bytes_after M pair cs) c).answer

  abbrev c₁ : Call
  c₁ = Call.change (Change.insert 1 (body_of 1))

  abbrev c₃ : Call
  c₃ = Call.change (Change.modify 1 (body_of 2))

  abbrev c₅ : Call
  c₅ = Call.change (Change.modify 1 (body_of 3))

  a₁ : said [] c₁ ≡ Answer.done
  unfolding events tells reasons first_of Fulfils body_of pair small
  a₁ = answered M pair [] (tells []) refl c₁ d tt first-within.1.1.0

  told₁ : past M pair (c₁ ∷ []) ≡ h₁
  unfolding events tells heard
  told₁ = one_more M pair [] (tells []) refl c₁ _ a₁

  a₂ : said (c₁ ∷ []) Call.begin ≡ Answer.begun 1
  unfolding reasons first_of Fulfils pair small
  a₂ = answered M pair (c₁ ∷ []) h₁ told₁ Call.begin d first-within.1.1 tt

  pub told₂ : past M pair (Call.begin ∷ c₁ ∷ []) ≡ h₂
  unfolding heard
  told₂ = one_more M pair (c₁ ∷ []) h₁ told₁ Call.begin _ a₂

  a₃ : said (Call.begin ∷ c₁ ∷ []) c₃ ≡ Answer.done
  unfolding reasons first_of Fulfils body_of awaits awaited pair small
  a₃ = answered M pair (Call.begin ∷ c₁ ∷ []) h₂ told₂ c₃ d first-within.1 first-within.0

  told₃ : past M pair first ≡ h₃
  unfolding heard
  told₃ = one_more M pair (Call.begin ∷ c₁ ∷ []) h₂ told₂ c₃ _ a₃

  a₄ : said first Call.begin ≡ Answer.begun 2
  unfolding reasons first_of Fulfils pair small
  a₄ = answered M pair first h₃ told₃ Call.begin d first-within tt

  told₄ : past M pair (Call.begin ∷ first) ≡ h₄
  unfolding heard
  told₄ = one_more M pair first h₃ told₃ Call.begin _ a₄

  a₅ : said (Call.begin ∷ first) c₅ ≡ Answer.done
  unfolding reasons first_of Fulfils body_of awaits awaited pair small
  a₅ = answered M pair (Call.begin ∷ first) h₄ told₄ c₅ d second_within.1 second_within.0

  pub both_accepted : AcceptsBoth M
  both_accepted = record { opened = d.opens pair; inserted = a₁; begun = a₂; modified = a₃; again = a₄; last = a₅ }
