-- The ways out of next, each from what its steps ensure to the rule.
use mathlib.Core.Path.{◌≡◌, sym, ap, ◌∙◌}
use mathlib.Core.List.{List, []}
use Prim.Native.Nat.{ℕ, suc, ◌+◌, ◌-◌, ◌/◌, ◌≤◌, ◌<◌, min}
use native.Mathlib.Omega.{arith}
use lib.ListN.{length}
use Rattle.rules.specs.declared.Card.{Card}
use Rattle.rules.specs.Answers.{Answer, Draw, refused}
use Rattle.rules.specs.Calls.{card_of}
use Rattle.rules.specs.Masks.{Masks}
use Rattle.rules.specs.Memory.{Slot, T, R, slots_of, card_at, masks_of, store_of, version}
use Rattle.rules.specs.Next.{Told, told, walk, finish}
use Rattle.rules.specs.Refusals.{Call, step}
use Rattle.joins.specs.Walks.{stop_at, moved_to, took, here}
use Rattle.joins.proofs.Cases.{next-none, next-goes}
use Rattle.joins.proofs.Walks.{walk-hit, walk-paused, walk-finished}
use Rattle.looks.specs.declared.walk.Seen.{Seen}
use Rattle.looks.specs.declared.walk.Walked.{Walked}
use Rattle.looks.specs.Walked.{stop_of, walked_of, hit_in}
use Rattle.settle.proofs.Moves.{table-there, shelf-there}
use Rattle.settle.specs.Settled.{CanGoOn, CanHandOut}
use Rattle.running.specs.Scan.{Ready, Runs, scan_of}
use Rattle.running.proofs.Scan.{scan_none, scan_one, scan_at, scan_fits, scan_handed}
use Rattle.running.proofs.Sought.{record_says, record_some, record_fits, spent_fits, record_at_lem, spent_says, end_says, end_at, ends_at, on_desk_lem, card_is, within, reach_is, stop_is}

module _ (d t s : List ℕ) (k b : ℕ) (o : List ℕ) where
  pub nexts_none : scan_of (store_of d [] []) k ≡ 64 → told (refused 10) (store_of d t s) o ≡ step (store_of d t s) (Call.next k b o)
  nexts_none h = next-none (store_of d t s) k (scan_none d t s k h) b o

  pub nexts_goes : {p : ℕ} → p ≡ scan_of (store_of d [] []) k → scan_of (store_of d [] []) k < 64 → walk (store_of d t s) p b 0 o ≡ step (store_of d t s) (Call.next k b o)
  nexts_goes {p} ep h = ap (λ (x : ℕ). walk (store_of d t s) x b 0 o) (sym (scan_at d t s k ep h)) ∙ next-goes (store_of d t s) k (scan_one d t s k ep h) b o

-- ---- the scan at p goes on

module _ (d t s : List ℕ) (b : ℕ) (o : List ℕ) {p : ℕ} (below : p < 64) {c : Card} (ec : c ≡ card_at d p) {m : Masks} (em : m ≡ masks_of d)
    (fits : c.place ≤ length t / 64 + length s / 64) {w : Walked} (ew : w ≡ walked_of (hit_in m.stable p (slots_of t) (slots_of s)) c.place b (length t / 64 + length s / 64)) where
  abbrev stop : ℕ
  stop = stop_of (hit_in m.stable p (slots_of t) (slots_of s)) c.place b (length t / 64 + length s / 64)

  stops : stop_at (store_of d t s) p b ≡ stop
  stops = stop_is d t s below ec (ap (λ (v : Masks). v.stable) em) b

  -- a record in hand
  module _ (seen : w.seen ≡ Seen.Record) where
    says : (stop < min (c.place + b) (length t / 64 + length s / 64)) × (w.looks ≡ suc stop - c.place) × (w.left ≡ b - (suc stop - c.place))
    says = record_says (hit_in m.stable p (slots_of t) (slots_of s)) c.place b (length t / 64 + length s / 64) ew seen

    pub nexts_record : (d' t' s' : List ℕ) {o' : List ℕ}
        → (store_of d' t' s' ≡ took (store_of d t s) p (c.place + w.looks - 1)) × (o' ≡ version (here (store_of d t s) (c.place + w.looks - 1)))
        → told (Answer.drew (Draw.in_hand w.looks w.left)) (store_of d' t' s') o' ≡ walk (store_of d t s) p b 0 o
    nexts_record d' t' s' e =
        rw (e.0, e.1, record_at_lem (hit_in m.stable p (slots_of t) (slots_of s)) c.place b (length t / 64 + length s / 64) ew seen, says.1, says.2)
        (sym
        (walk-hit (store_of d t s) p (on_desk_lem d t s below) b o (within d t s below ec fits) (rw (stops, reach_is d t s below ec b) says.0)
        ∙ ap (λ (x : ℕ). found x (card_of (store_of d t s) p).place) stops ∙ ap (λ (v : Card). found stop v.place) (card_is d t s below ec)))
      where
        found : ℕ → ℕ → Told
        found x y = told (Answer.drew (Draw.in_hand (suc x - y) (b - (suc x - y)))) (took (store_of d t s) p x) (version (here (store_of d t s) x))

  -- the budget spent
  module _ (seen : w.seen ≡ Seen.Spent) where
    spent : (min (c.place + b) (length t / 64 + length s / 64) ≤ stop) × (c.place + b < length t / 64 + length s / 64) × (w.looks ≡ b)
    spent = spent_says (hit_in m.stable p (slots_of t) (slots_of s)) c.place b (length t / 64 + length s / 64) ew seen

    pub nexts_spent : (d' : List ℕ) → store_of d' t s ≡ moved_to (store_of d t s) p (c.place + w.looks) c.handed (slots_of t) (slots_of s)
        → told (Answer.drew (Draw.paused w.looks)) (store_of d' t s) o ≡ walk (store_of d t s) p b 0 o
    nexts_spent d' e =
        rw (e, spent.2)
        (sym
        (walk-paused (store_of d t s) p (on_desk_lem d t s below) b o (within d t s below ec fits) (rw (stops, reach_is d t s below ec b) spent.0) (rw (reach_is d t s below ec b, ends_at d t s) (omega (arith, spent.1)))
        ∙ ap (λ (v : Card). told (Answer.drew (Draw.paused b)) (moved_to (store_of d t s) p (v.place + b) v.handed (store_of d t s).table (store_of d t s).shelf) o) (card_is d t s below ec)
        ∙ ap (λ (x : List Slot). told (Answer.drew (Draw.paused b)) (moved_to (store_of d t s) p (c.place + b) c.handed x (store_of d t s).shelf) o) (table-there d t s)
        ∙ ap (λ (x : List Slot). told (Answer.drew (Draw.paused b)) (moved_to (store_of d t s) p (c.place + b) c.handed (slots_of t) x) o) (shelf-there d t s)))

  -- the end
  module _ (seen : w.seen ≡ Seen.End) where
    ended : (min (c.place + b) (length t / 64 + length s / 64) ≤ stop) × (length t / 64 + length s / 64 ≤ c.place + b) × (w.looks ≡ length t / 64 + length s / 64 - c.place)
        × (w.left ≡ b - (length t / 64 + length s / 64 - c.place))
    ended = end_says (hit_in m.stable p (slots_of t) (slots_of s)) c.place b (length t / 64 + length s / 64) ew seen

    pub nexts_end : (d' : List ℕ) → store_of d' t s ≡ finish (moved_to (store_of d t s) p (c.place + w.looks) c.handed (slots_of t) (slots_of s)) p
        → told (Answer.drew (Draw.finished w.looks w.left c.handed)) (store_of d' t s) o ≡ walk (store_of d t s) p b 0 o
    nexts_end d' e =
        rw (e, end_at (hit_in m.stable p (slots_of t) (slots_of s)) c.place b (length t / 64 + length s / 64) ew seen fits, ended.2, ended.3)
        (sym
        (walk-finished (store_of d t s) p (on_desk_lem d t s below) b o (within d t s below ec fits) (rw (stops, reach_is d t s below ec b) ended.0) (rw (reach_is d t s below ec b, ends_at d t s) (omega (arith, ended.1)))
        ∙ ap (λ (v : Card). over (T (store_of d t s) + R (store_of d t s)) v.place v.handed (store_of d t s).table (store_of d t s).shelf) (card_is d t s below ec)
        ∙ ap (λ (x : ℕ). over x c.place c.handed (store_of d t s).table (store_of d t s).shelf) (ends_at d t s)
        ∙ ap (λ (x : List Slot). over (length t / 64 + length s / 64) c.place c.handed x (store_of d t s).shelf) (table-there d t s)
        ∙ ap (λ (x : List Slot). over (length t / 64 + length s / 64) c.place c.handed (slots_of t) x) (shelf-there d t s)))
      where
        over : ℕ → ℕ → ℕ → List Slot → List Slot → Told
        over end place h tb sf = told (Answer.drew (Draw.finished (end - place) (b - (end - place)) h)) (finish (moved_to (store_of d t s) p end h tb sf) p) o

-- ---- what the scan at p is asked for, where it runs

module _ (d t s : List ℕ) (b : ℕ) (o : List ℕ) (ready : Ready d t s) {p : ℕ} (runs : Runs d p) {c : Card} (ec : c ≡ card_at d p) {m : Masks} (em : m ≡ masks_of d) {w : Walked}
    (ew : w ≡ walked_of (hit_in m.stable p (slots_of t) (slots_of s)) c.place b (length t / 64 + length s / 64)) where
  fits : c.place ≤ length t / 64 + length s / 64
  fits = scan_fits d t s ready.2 runs ec

  pub can_hand_out : w.seen ≡ Seen.Record → CanHandOut d t s p c m w.looks
  can_hand_out seen =
      (ec, em, record_fits (hit_in m.stable p (slots_of t) (slots_of s)) c.place b (length t / 64 + length s / 64) ew seen, omega (arith, ready.1), record_some (hit_in m.stable p (slots_of t) (slots_of s)) c.place b (length t / 64 + length s / 64) ew seen, omega (arith, fits, scan_handed d t s ready.2 runs ec, ready.1))

  pub can_move_on : w.seen ≡ Seen.Spent → CanGoOn d p c m (c.place + w.looks)
  can_move_on seen = (ec, em, omega (arith, spent_fits (hit_in m.stable p (slots_of t) (slots_of s)) c.place b (length t / 64 + length s / 64) ew seen, ready.1))

  pub can_finish : w.seen ≡ Seen.End → CanGoOn d p c m (c.place + w.looks)
  can_finish seen = (ec, em, omega (arith, end_at (hit_in m.stable p (slots_of t) (slots_of s)) c.place b (length t / 64 + length s / 64) ew seen fits, ready.1))
