-- Peek tells what next with a large budget hands out, on any lent bytes.
use mathlib.Core.Path.{◌≡◌, refl, sym, ap, ◌∙◌}
use mathlib.Core.Bool.{Bool, true, false}
use mathlib.Core.Option.{Option, none, some}
use mathlib.Core.List.{List, []}
use Prim.Native.Nat.{ℕ, zero, suc, ◌+◌, ◌≤◌, ◌<◌}
use native.Mathlib.Omega.{arith}
use lib.ListN.{length}
use borrow.Author.Tests.{eq-eqb}
use Rattle.rules.specs.Passed.{LentBytes}
use Rattle.demands.specs.Machine.{slots}
use Rattle.demands.specs.RuleOfNext.{brought, PeekIsNext}
use Rattle.rules.specs.Answers.{Answer, Shown}
use Rattle.rules.specs.Calls.{card_of, position_of}
use Rattle.rules.specs.Memory.{Lent, Slot, Store, T, R, store_of, read}
use Rattle.rules.specs.Next.{Told, look, at_end, walk}
use Rattle.rules.specs.Refusals.{Call, Reading, own_right, first_of, own_refusals, looks_at_desk, refusals, effect, refused_as, replied, called}
use Rattle.demands.proofs.page.DemandOne.{accepted, read_fine}
use Rattle.demands.proofs.page.Lives.{accepted_is, refused_is}
use Rattle.stores.proofs.LooksFine.{BusyAt, not_at_end, look_fine, look_place, look_busy, ticket_busy}
use Rattle.stores.proofs.OnePosition.{Fine}
use Rattle.stores.proofs.Spelling.{count-read}
use Rattle.stores.proofs.Stays.{at_position, ticket-some, ticket-there, look_kept}
use Rattle.rules.proofs.Walk.{walk_stop, walk_on, walk_on_lem, walk_ind}

-- ---- a walk with a budget for every place left hands out the same, whatever the budget, the looks made and the buffer

abbrev handed : Told → List ℕ
handed r = brought r.answer r.out

-- what is handed out at once is the same in both
abbrev Alike : ℕ → ℕ → ℕ → Type 0
Alike p b c =
    (S : Store) (l m : ℕ) (o u : List ℕ) → Fine S → BusyAt S p → T S + R S ≤ (card_of S p).place + b → T S + R S ≤ (card_of S p).place + c → handed (walk S p b l o) ≡ handed (walk S p c m u)

module _ (p : ℕ) (hp : p < 64) where
  stop_alike : (b c : ℕ) (S : Store) (l m : ℕ) (o u : List ℕ) → at_end S p ≡ true → handed (walk S p b l o) ≡ handed (walk S p c m u)
  stop_alike b c S l m o u e = ap handed (walk_stop S p b l o e) ∙ sym (ap handed (walk_stop S p c m u e))

  -- a budget that is spent was for every place
  spent_alike : (b c : ℕ) (S : Store) (l m : ℕ) (o u : List ℕ) → Fine S → BusyAt S p → T S + R S ≤ (card_of S p).place → handed (walk S p b l o) ≡ handed (walk S p c m u)
  spent_alike b c S l m o u f y h = go (at_end S p) refl
    where
      go : (x : Bool) → at_end S p ≡ x → handed (walk S p b l o) ≡ handed (walk S p c m u)
      go true e = stop_alike b c S l m o u e
      go false e = absurd (omega (arith, not_at_end S f p hp y e))

  on_alike : (b c : ℕ) → Alike p b c → Alike p (suc b) (suc c)
  unfolding walk_on
  on_alike b c ih S l m o u f y hb hc = go (at_end S p) refl
    where
      more : at_end S p ≡ false → (x : Option Slot) → handed (walk_on (look S p).0 p b l o x) ≡ handed (walk_on (look S p).0 p c m u x)
      more e none =
          let z : (card_of (look S p).0 p).place ≡ suc (card_of S p).place = look_place S f p hp y e in
          let k = look_kept S p in
          ih (look S p).0 (suc l) (suc m) o u (look_fine S f p hp y e) (look_busy S f p hp y e) (omega (arith, z, k.slots, k.entries)) (omega (arith, z, k.slots, k.entries))
      more e (some v) = refl

      go : (x : Bool) → at_end S p ≡ x → handed (walk S p (suc b) l o) ≡ handed (walk S p (suc c) m u)
      go true e = stop_alike (suc b) (suc c) S l m o u e
      go false e = ap handed (walk_on_lem S p b l o e) ∙ more e (look S p).1 ∙ sym (ap handed (walk_on_lem S p c m u e))

  hands-alike : (b c : ℕ) → Alike p b c
  hands-alike zero c S l m o u f y hb hc = spent_alike zero c S l m o u f y (omega arith)
  hands-alike (suc b) zero S l m o u f y hb hc = spent_alike (suc b) zero S l m o u f y (omega arith)
  hands-alike (suc b) (suc c) S l m o u f y hb hc = on_alike b c (hands-alike b c) S l m o u f y hb hc

-- an empty buffer stays empty unless a record is handed out
empty_stays : (S : Store) (p b : ℕ) → (walk S p b 0 []).out ≡ handed (walk S p b 0 [])
empty_stays S p b = walk_ind p [] (λ X l c. Unit) (λ r. r.out ≡ handed r) (λ X l c h e. refl) (λ X l h e. refl) (λ X l c h e z. tt) (λ X l c v h e z. refl) b S 0 tt

-- ---- the two calls

same-refusals : (l : Lent) (t b : ℕ) (o : List ℕ) → length o ≡ 56 → first_of (refusals l (Call.reading (Reading.peek t))) ≡ first_of (refusals l (Call.next t b o))
unfolding refusals own_right looks_at_desk own_refusals
same-refusals l t b o e = rw (eq-eqb (length o) 56 e) refl

refused-alike : (l : Lent) (t b k : ℕ) (o : List ℕ) → (replied (some k) l (Call.reading (Reading.peek t))).answer ≡ Answer.shown (Shown.part (brought (replied (some k) l (Call.next t b o)).answer (replied (some k) l (Call.next t b o)).out))
unfolding replied refused_as
refused-alike l t b k o = refl

effects_alike : (l : Lent) → LentBytes l → (t b : ℕ) (o : List ℕ) → slots l.table + slots l.shelf ≤ b → first_of (refusals l (Call.reading (Reading.peek t))) ≡ none
    → (effect (read l) (Call.reading (Reading.peek t))).answer ≡ Answer.shown (Shown.part (handed (effect (read l) (Call.next t b o))))
unfolding effect own_refusals looks_at_desk store_of
effects_alike l a t b o big e =
    let q = accepted l (Call.reading (Reading.peek t)) e in
    let f = read_fine l a q.lengths (q.desk refl) in
    let p : position_of (read l) t < 64 = at_position (read l) t q.others.0 in
    let y = ticket_busy (read l) f (position_of (read l) t) p (omega (arith, ticket-there (read l) t q.others.0, ticket-some (read l) t q.others.0)) in
    ap (λ (z : List ℕ). Answer.shown (Shown.part z))
    (empty_stays (read l) (position_of (read l) t) (T (read l) + R (read l))
    ∙ hands-alike (position_of (read l) t) p (T (read l) + R (read l)) b (read l) 0 0 [] o f y (omega arith) (omega (arith, count-read l.table, count-read l.shelf)))

pub peek_is_next : PeekIsNext called
unfolding PeekIsNext
peek_is_next l a t b o w len big = go (first_of (refusals l (Call.reading (Reading.peek t)))) refl
  where
    go : (x : Option ℕ) → first_of (refusals l (Call.reading (Reading.peek t))) ≡ x → (called l (Call.reading (Reading.peek t))).answer ≡ Answer.shown (Shown.part (brought (called l (Call.next t b o)).answer (called l (Call.next t b o)).out))
    go none e = rw (accepted_is l (Call.reading (Reading.peek t)) e, accepted_is l (Call.next t b o) (sym (same-refusals l t b o len) ∙ e)) (effects_alike l a t b o big e)
    go (some k) e = rw (refused_is l (Call.reading (Reading.peek t)) k e, refused_is l (Call.next t b o) k (sym (same-refusals l t b o len) ∙ e)) (refused-alike l t b k o)
