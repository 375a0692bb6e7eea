-- The old store frees a scan's position when its table walk ends: the next scan takes it, and the first hands out a record that it never
-- began with. It does not meet demand 2.
use mathlib.Core.Path.{◌≡◌, refl, sym, ap, ◌∙◌}
use mathlib.Core.List.Memᴰ
use mathlib.Core.List.{List, [], ◌∷◌, map}
use Prim.Native.Nat.{ℕ, ◌+◌, ◌<◌}
use native.Mathlib.Omega.{arith}
use Rattle.demands.specs.DemandTwo.{Goes, Fulfils, Demand2}
use Rattle.demands.specs.History.{Event, version, scan, History, history, reads, awaits, awaited, heard, tells}
use Rattle.idle.specs.Idle.{buffer}
use Rattle.rules.specs.Passed.{All}
use Rattle.demands.specs.Lives.{bytes_after, events, past}
use Rattle.demands.specs.Machine.{Machine, Within}
use Rattle.wrong.specs.OldStore.{too_early, carded, never_two, old_store}
use Rattle.wrong.specs.Walk.{table_look, shelf_look, look_at, walk}
use Rattle.wrong.specs.Ways.{effect_by, replied_by, called_by}
use Rattle.demands.specs.Reasons.{reasons}
use Rattle.rules.specs.Answers.{Answer, Draw}
use Rattle.rules.specs.Bytes.{le, to_le, field, u32_at, u64_at}
use Rattle.rules.specs.Calls.{first, opened, inserted, changed_by}
use Rattle.rules.specs.Masks.{bit, NOT, from, scan_mask, REMSET_MASK_INS, LCL_ACTIVE_MASK_UPD, ACTIVE_MASK_UPD, STATUS_MASK_UPD, STABLE_FLIP, cleared, walk_begun, new_status, m_of}
use Rattle.rules.specs.Memory.{each, desk_of, store_of, joined, desk_bytes, written}
use Rattle.rules.specs.Refusals.{Call, Change, lengths_right, own_right, first_of, own_refusals, effect, called}
use Rattle.demands.proofs.machines.Small.{small, pair, body_of, body_bytes}
use Rattle.demands.proofs.page.DemandTwo.{demand_2}
use Rattle.idle.proofs.OneMore.{one_more, answered as given, pauses}
use Rattle.stores.proofs.Sizes.{zero-bytes}

-- the noon list begins on an empty table and walks it; a record comes, another list begins, the record goes; newest first
abbrev pub noon : List Call
noon = Call.change (Change.delete 2) ∷ Call.begin ∷ Call.change (Change.insert 2 (body_of 1)) ∷ Call.next 1 1 buffer ∷ Call.begin ∷ []

-- the noon list goes on
abbrev pub on : Call
on = Call.next 1 2 buffer

on_within : Within on
unfolding buffer
on_within = (omega arith, omega arith, zero-bytes 56)

noon_within : All Within noon
unfolding buffer
noon_within = (omega arith, (tt, ((omega arith, body_bytes 1 (omega arith)), ((omega arith, omega arith, zero-bytes 56), (tt, tt)))))

abbrev event : Call → Answer → List ℕ → Event
event c a o = record { call = c; answer = a; out = o }

abbrev newest : {A B : Type 0} → B → (A → B) → List A → B
newest b f [] = b
newest b f (x ∷ xs) = f x

-- the answers, newest first, and the last hand-out
abbrev pub answered : Machine → List Answer
answered M = map (λ (e : Event). e.answer) (events M pair (on ∷ noon))

abbrev pub last_out : Machine → List ℕ
last_out M = (M (bytes_after M pair noon) on).out

-- what was answered up to there, newest first
abbrev until : List Event
until = event (Call.change (Change.delete 2)) Answer.done [] ∷ event Call.begin (Answer.begun 2) [] ∷ event (Call.change (Change.insert 2 (body_of 1))) Answer.done [] ∷ event (Call.next 1 1 buffer) (Answer.drew (Draw.paused 1)) buffer ∷ event Call.begin (Answer.begun 1) [] ∷ []

old-events : events old_store pair (on ∷ noon) ≡ event on (Answer.drew (Draw.in_hand 1 1)) (reads (version 2 (body_of 1) 0)) ∷ until
unfolding bytes_after events pair small body_of buffer too_early carded never_two table_look shelf_look look_at walk effect_by replied_by called_by le to_le field u32_at u64_at first opened inserted changed_by bit NOT from scan_mask REMSET_MASK_INS LCL_ACTIVE_MASK_UPD ACTIVE_MASK_UPD STATUS_MASK_UPD STABLE_FLIP cleared walk_begun new_status m_of each desk_of store_of joined desk_bytes written lengths_right own_right first_of own_refusals effect
old-events = refl

-- the old store's noon list hands out the record that was not there when it began
pub old-hands-out : (answered old_store ≡ Answer.drew (Draw.in_hand 1 1) ∷ Answer.done ∷ Answer.begun 2 ∷ Answer.done ∷ Answer.drew (Draw.paused 1) ∷ Answer.begun 1 ∷ []) × (last_out old_store ≡ reads (version 2 (body_of 1) 0))
unfolding events
old-hands-out = (ap (map (λ (e : Event). e.answer)) old-events, ap (newest buffer (λ (e : Event). e.out)) old-events)

-- ---- any machine with demand 2 answers the same up to there, and finishes with nothing handed out

-- a scan that began with nothing and has two looks to go
finishes : (u : List ℕ) (a : Answer) → Goes 1 2 (scan 1 [] [] 1) 2 u a → a ≡ Answer.drew (Draw.finished 2 0 0)
finishes u (Answer.drew (Draw.in_hand x y)) g = absurd (Memᴰ.not-nil g.0.1)
finishes u (Answer.drew (Draw.paused x)) g = let e : x ≡ 2 = g.0 in let f : 1 + x < 3 = g.1 in absurd (omega arith)
finishes u (Answer.drew (Draw.finished x y z)) g =
    let e : x + y ≡ 2 = g.2 in
    let f : 1 + x ≡ 3 = g.3 in
    let p : x ≡ 2 = omega arith in
    let q : y ≡ 0 = omega arith in
    λ i. Answer.drew (Draw.finished (p i) (q i) (g.1 i))
finishes u Answer.done g = elim g [ ]
finishes u (Answer.begun _) g = elim g [ ]
finishes u (Answer.shown _) g = elim g [ ]
finishes u (Answer.refused _) g = elim g [ ]

-- what the calls tell
abbrev h₁ : History
h₁ = history 0 [] [] 1 (scan 1 [] [] 0 ∷ [])

abbrev h₂ : History
h₂ = history 0 [] [] 1 (scan 1 [] [] 1 ∷ [])

abbrev h₃ : History
h₃ = history 1 (version 2 (body_of 1) 0 ∷ []) [] 1 (scan 1 [] [] 1 ∷ [])

abbrev h₄ : History
h₄ = history 1 (version 2 (body_of 1) 0 ∷ []) [] 2 (scan 2 (version 2 (body_of 1) 0 ∷ []) [] 0 ∷ scan 1 [] [] 1 ∷ [])

abbrev h₅ : History
h₅ = history 2 [] (version 2 (body_of 1) 0 ∷ []) 2 (scan 2 (version 2 (body_of 1) 0 ∷ []) [] 0 ∷ scan 1 [] [] 1 ∷ [])

module _ (M : Machine) (d : Demand2 M) where
  abbrev said : List Call → Call → Answer
  said cs c = (M (bytes_after M pair cs) c).answer

  a₁ : said [] Call.begin ≡ Answer.begun 1
  unfolding events tells reasons first_of Fulfils pair small
  a₁ = given M pair [] (tells []) refl Call.begin d tt tt

  told₁ : past M pair (Call.begin ∷ []) ≡ h₁
  unfolding events tells heard
  told₁ = one_more M pair [] (tells []) refl Call.begin _ a₁

  a₂ : said (Call.begin ∷ []) (Call.next 1 1 buffer) ≡ Answer.drew (Draw.paused 1)
  unfolding reasons first_of Fulfils pair small buffer
  a₂ = pauses 1 _ _ (given M pair (Call.begin ∷ []) h₁ told₁ (Call.next 1 1 buffer) d (tt, tt) noon_within.1.1.1.0)

  told₂ : past M pair (Call.next 1 1 buffer ∷ Call.begin ∷ []) ≡ h₂
  unfolding heard
  told₂ = one_more M pair _ h₁ told₁ (Call.next 1 1 buffer) _ a₂

  a₃ : said (Call.next 1 1 buffer ∷ Call.begin ∷ []) (Call.change (Change.insert 2 (body_of 1))) ≡ Answer.done
  unfolding reasons first_of Fulfils pair small body_of
  a₃ = given M pair _ h₂ told₂ (Call.change (Change.insert 2 (body_of 1))) d noon_within.1.1.1 noon_within.1.1.0

  told₃ : past M pair (Call.change (Change.insert 2 (body_of 1)) ∷ Call.next 1 1 buffer ∷ Call.begin ∷ []) ≡ h₃
  unfolding heard
  told₃ = one_more M pair _ h₂ told₂ (Call.change (Change.insert 2 (body_of 1))) _ a₃

  a₄ : said (Call.change (Change.insert 2 (body_of 1)) ∷ Call.next 1 1 buffer ∷ Call.begin ∷ []) Call.begin ≡ Answer.begun 2
  unfolding reasons first_of Fulfils pair small
  a₄ = given M pair _ h₃ told₃ Call.begin d noon_within.1.1 tt

  told₄ : past M pair (Call.begin ∷ Call.change (Change.insert 2 (body_of 1)) ∷ Call.next 1 1 buffer ∷ Call.begin ∷ []) ≡ h₄
  unfolding heard
  told₄ = one_more M pair _ h₃ told₃ Call.begin _ a₄

  a₅ : said (Call.begin ∷ Call.change (Change.insert 2 (body_of 1)) ∷ Call.next 1 1 buffer ∷ Call.begin ∷ []) (Call.change (Change.delete 2)) ≡ Answer.done
  unfolding reasons first_of Fulfils pair small awaits awaited
  a₅ = given M pair _ h₄ told₄ (Call.change (Change.delete 2)) d noon_within.1 noon_within.0

  told₅ : past M pair noon ≡ h₅
  unfolding heard
  told₅ = one_more M pair _ h₄ told₄ (Call.change (Change.delete 2)) _ a₅

  a₆ : said noon on ≡ Answer.drew (Draw.finished 2 0 0)
  unfolding reasons first_of Fulfils pair small buffer
  a₆ = finishes _ _ (given M pair noon h₅ told₅ on d noon_within on_within)

  noon_answered : answered M ≡ Answer.drew (Draw.finished 2 0 0) ∷ Answer.done ∷ Answer.begun 2 ∷ Answer.done ∷ Answer.drew (Draw.paused 1) ∷ Answer.begun 1 ∷ []
  unfolding events
  noon_answered = λ i. a₆ i ∷ a₅ i ∷ a₄ i ∷ a₃ i ∷ a₂ i ∷ a₁ i ∷ []

pub ours-finishes : answered called ≡ Answer.drew (Draw.finished 2 0 0) ∷ Answer.done ∷ Answer.begun 2 ∷ Answer.done ∷ Answer.drew (Draw.paused 1) ∷ Answer.begun 1 ∷ []
ours-finishes = noon_answered called demand_2

pub old_store_fails_2 : Demand2 old_store → ⊥
old_store_fails_2 d =
    let e : Answer.drew (Draw.in_hand 1 1) ≡ Answer.drew (Draw.finished 2 0 0) = ap (newest Answer.done (λ (a : Answer). a)) (sym old-hands-out.0 ∙ noon_answered old_store d) in
    let z : ◌≡◌ {A = ℕ} 0 1 = cc in omega arith
