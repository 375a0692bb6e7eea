-- Calls one by one: what was told so far, and what any machine with demand 2 answers to the next.
use mathlib.Core.Path.{◌≡◌, ap, subst}
use mathlib.Core.List.Memᴰ
use mathlib.Core.List.{List, [], ◌∷◌}
use Prim.Native.Nat.{ℕ, suc, ◌+◌}
use native.Mathlib.Omega.{arith}
use Rattle.demands.specs.DemandTwo.{Goes, Answers, Demand2}
use Rattle.demands.specs.History.{scan, History, heard, tells}
use Rattle.rules.specs.Passed.{All}
use Rattle.demands.specs.Lives.{Opening, table_slots, shelf_entries, bytes_after, events, past}
use Rattle.demands.specs.Machine.{Machine, Within}
use Rattle.demands.specs.Reasons.{reason}
use Rattle.rules.specs.Answers.{Answer, Draw}
use Rattle.rules.specs.Refusals.{Call}

module _ (M : Machine) (o : Opening) (cs : List Call) (h : History) (e : past M o cs ≡ h) (c : Call) where
  pub one_more : (a : Answer) → (M (bytes_after M o cs) c).answer ≡ a → past M o (c ∷ cs) ≡ heard h c a (M (bytes_after M o cs) c).out
  unfolding events tells
  one_more a f = λ i. heard (e i) c (f i) (M (bytes_after M o cs) c).out

  pub answered : Demand2 M → All Within cs → Within c → Answers (table_slots o) (shelf_entries o) h (reason o.n (table_slots o) (shelf_entries o) h c) c (M (bytes_after M o cs) c).answer (M (bytes_after M o cs) c).out
  answered d ws w = subst (λ (y : History). Answers (table_slots o) (shelf_entries o) y (reason o.n (table_slots o) (shelf_entries o) y c) c (M (bytes_after M o cs) c).answer (M (bytes_after M o cs) c).out) e (d.answers o cs ws c w)

-- a scan that began with nothing is not finished by one look
pub pauses : (r : ℕ) (u : List ℕ) (a : Answer) → Goes 1 (suc r) (scan 1 [] [] 0) 1 u a → a ≡ Answer.drew (Draw.paused 1)
pauses r u (Answer.drew (Draw.in_hand x y)) g = absurd (Memᴰ.not-nil g.0.1)
pauses r u (Answer.drew (Draw.paused x)) g = ap (λ (n : ℕ). Answer.drew (Draw.paused n)) g.0
pauses r u (Answer.drew (Draw.finished x y z)) g = let e : x + y ≡ 1 = g.2 in let f : 0 + x ≡ 1 + suc r = g.3 in absurd (omega arith)
pauses r u Answer.done g = elim g [ ]
pauses r u (Answer.begun _) g = elim g [ ]
pauses r u (Answer.shown _) g = elim g [ ]
pauses r u (Answer.refused _) g = elim g [ ]
