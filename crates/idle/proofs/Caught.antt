-- The idle machines do not meet the demands.
use mathlib.Core.Path.{◌≡◌, refl, sym, ◌∙◌, subst}
use mathlib.Core.Bool.{Bool, false}
use mathlib.Core.Option.{some}
use mathlib.Core.List.{List, [], ◌∷◌}
use mathlib.Core.Logic.{inl, inr}
use Prim.Native.Nat.{ℕ, zero, suc, ◌+◌}
use native.Mathlib.Omega.{arith}
use lib.Dec.{leb}
use lib.ListN.{replicate}
use borrow.Author.Tests.{eq-eqb, lt-leb}
use Rattle.demands.specs.DemandTwo.{Fulfils, Unrefused, Answers, Demand2}
use Rattle.demands.specs.Finishing.{asks, asked, Finished, FinishedBy, Finishing}
use Rattle.demands.specs.History.{Scan, History, scan_of, tells}
use Rattle.idle.specs.Idle.{Moment, past_then, WithinSince, bytes_since, RefusesAll, buffer, PausesForEver, NeverStarts, Invents}
use Rattle.demands.specs.Lives.{table_slots, shelf_entries, events}
use Rattle.demands.specs.Machine.{Machine, Within}
use Rattle.demands.specs.Masks.{one_if}
use Rattle.demands.specs.Placement.{lowest}
use Rattle.demands.specs.Reasons.{reasons, reason}
use Rattle.demands.specs.RuleOfNext.{RuleOfNext}
use Rattle.rules.specs.Answers.{Answer, Draw}
use Rattle.rules.specs.Refusals.{Call, Reading, first_of, refused_as, called}
use Rattle.demands.proofs.page.DemandTwo.{demand_2}
use Rattle.demands.proofs.machines.Finishing.{finishing}
use Rattle.demands.proofs.machines.OneHistory.{same-answers}
use Rattle.demands.proofs.page.RuleOfNext.{rule_of_next}
use Rattle.stores.proofs.SoundDesk.{range}

-- ---- a store that refuses all calls

-- tally is refused for no reason
tally_answered : (N T R : ℕ) (h : History) (a : Answer) (o : List ℕ) → Answers T R h (reason N T R h (Call.reading Reading.tally)) (Call.reading Reading.tally) a o → Unrefused a
unfolding reasons first_of Fulfils
tally_answered N T R h a o f = f

pub refuses_all_caught : (M : Machine) → RefusesAll M → Demand2 M → ⊥
unfolding refused_as
refuses_all_caught M r d =
    let m = r.moment in
    let w = r.refuses (Call.reading Reading.tally) tt in
    tally_answered m.opening.n (table_slots m.opening) (shelf_entries m.opening) (past_then M m) _ _ (d.answers m.opening m.calls m.within (Call.reading Reading.tally) tt) w.0 w.1

-- ---- one that answers 100 for ever

-- a running scan that is asked again and again is answered finished at some time
module _ (M : Machine) (d : Demand2 M) (m : Moment) (t : ℕ) (s : Scan) (is : scan_of (past_then M m) t ≡ some s) (passable : Within (Call.next t 1 buffer)) where
  abbrev ask : Call
  ask = Call.next t 1 buffer

  asks-one : one_if (asks t ask) ≡ 1
  unfolding buffer
  asks-one = rw (eq-eqb t t refl) refl

  asked-all : (n : ℕ) → asked t (replicate n ask) ≡ n
  asked-all zero = refl
  asked-all (suc n) = omega (arith, asks-one, asked-all n)

  within_all : (n : ℕ) → WithinSince m (replicate n ask)
  within_all zero = m.within
  within_all (suc n) = (passable, within_all n)

  pub record Ended : Type 0 where
    pub calls : List Call
    pub within : WithinSince m calls
    pub finished : Finished t ask (M (bytes_since M m calls) ask).answer

  ended : (n : ℕ) → FinishedBy M m.opening m.calls t (replicate n ask) → Ended
  ended zero f = absurd f
  ended (suc n) f = go f (ended n)
    where
      go : FinishedBy M m.opening m.calls t (ask ∷ replicate n ask) → (FinishedBy M m.opening m.calls t (replicate n ask) → Ended) → Ended
      go (inl w) ih = record { calls = replicate n ask; within = within_all n; finished = w }
      go (inr w) ih = ih w

  abbrev enough : ℕ
  enough = suc (table_slots m.opening + shelf_entries m.opening)

  pub ends : Ended
  unfolding Finishing
  ends = ended enough (finishing M d m.opening m.calls (replicate enough ask) (within_all enough) t s is (omega (arith, asked-all enough)))

pub pauses_for_ever_caught : (M : Machine) → PausesForEver M → Demand2 M → ⊥
pauses_for_ever_caught M p d =
    let w = ends M d p.moment p.ticket p.scan p.running p.passable in
    let f = w.finished in
    let x = p.pauses w.calls w.within in
    let e : (Answer.drew (Draw.paused x.0)) ≡ (Answer.drew (Draw.finished f.1.0 f.1.1 f.1.2)) = sym x.1 ∙ f.1.3 in
    let z : ◌≡◌ {A = ℕ} 0 1 = cc in omega arith

-- ---- one that never starts a scan

first-begun : (N T R : ℕ) → leb N 0 ≡ false → (a : Answer) (o : List ℕ) → Answers T R (tells []) (reason N T R (tells []) Call.begin) Call.begin a o → a ≡ Answer.begun 1
unfolding tells reasons first_of Fulfils
first-begun N T R e a o f = subst (λ (b : Bool). Answers T R (tells []) (first_of ((b, 9) ∷ (false, 11) ∷ [])) Call.begin a o) e f

pub never_starts_caught : (M : Machine) → NeverStarts M → Demand2 M → ⊥
unfolding events
never_starts_caught M s d =
    let o = s.opening in
    s.never [] tt 1 (first-begun o.n (table_slots o) (shelf_entries o) (lt-leb o.n 0 (range o.n o.in_range).0) _ _ (d.answers o [] tt Call.begin tt))

-- ---- invented looks or handed counts

pub invents_caught : (M : Machine) → Invents M → Demand2 M → RuleOfNext M lowest → ⊥
invents_caught M w d r = let m = w.moment in w.otherwise (same-answers called M lowest demand_2 rule_of_next d r m.opening m.calls m.within w.call w.passable)
