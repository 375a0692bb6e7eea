-- Entries in use and versions needed.
use mathlib.Core.Path.{◌≡◌, refl, sym, ap, ◌∙◌, subst}
use mathlib.Core.Bool.{Bool, true, false}
use mathlib.Core.Option.{Option, none, some}
use mathlib.Core.List.{List, ◌∷◌, ◌++◌}
use Prim.Native.Nat.{ℕ, suc, ◌≤◌}
use native.Mathlib.Omega.{arith}
use lib.ListN.{length, get_or, length-append}
use borrow.Author.Tests.{ne_eqb}
use Rattle.demands.specs.DemandThree.{Reads, Holds, Demand3}
use Rattle.demands.specs.DemandTwo.{Fulfils, Answers, Demand2}
use Rattle.demands.specs.History.{Version, History, awaited, needed, numbered, leaving, heard, tells}
use Rattle.idle.specs.Idle.{change, ShelvesForEach}
use Rattle.rules.specs.Passed.{All}
use Rattle.demands.specs.Lists.{any, those, standing}
use Rattle.demands.specs.Lives.{Opening, table_slots, shelf_entries, bytes_after, events, past}
use Rattle.demands.specs.Machine.{Machine, Within}
use Rattle.demands.specs.Reasons.{reason}
use Rattle.rules.specs.Answers.{Answer}
use Rattle.rules.specs.Calls.{slot_in, in_use, used}
use Rattle.rules.specs.Memory.{slots_of}
use Rattle.rules.specs.Refusals.{Call}
use Rattle.demands.proofs.machines.AnyMachine.{those_most, any_told}
use Rattle.demands.proofs.invariant.Counts.{Agrees, count_is}
use Rattle.demands.proofs.lists.Lists.{In, in_right, any_none, those_in, those-all, those-none, perm_in, perm_length}
use Rattle.demands.proofs.page.Lives.{refused-heard}
use Rattle.demands.proofs.machines.NoSmaller.{one-leaves, those-append}
use Rattle.demands.proofs.history.Past.{Past}
use Rattle.demands.proofs.lists.Places.{at_standing}

-- ---- a buffer has as many places in use as it holds versions

module _ (buffer : List ℕ) (vs : List Version) (h : Holds buffer vs) (some-number : (v : Version) → In v vs → 1 ≤ v.number) where
  agrees : (i : ℕ) (o : Option Version) → get_or h.which i none ≡ o → Reads (slot_in (slots_of buffer) i) o → Agrees in_use (λ v. true) (slot_in (slots_of buffer) i) o
  agrees i none e w = ap in_use w
  agrees i (some v) e w =
      let k : 1 ≤ v.number = some-number v (perm_in v (standing h.which) vs h.each (at_standing h.which i v e)) in
      let n : (slot_in (slots_of buffer) i).number ≡ v.number = w.0 in
      rw (ne_eqb (slot_in (slots_of buffer) i).number 0 (λ z. omega arith)) refl

  pub in_use_is : used (slots_of buffer) ≡ length vs
  in_use_is =
      count_is in_use (λ v. true) (slots_of buffer) h.which h.all (λ i k. agrees i (get_or h.which i none) refl (h.spelt i)) ∙ ap length (those-all (λ v. true) (standing h.which) (λ v i. refl))
      ∙ perm_length (standing h.which) vs h.each

-- ---- demands 2 and 3 give it of the shelf, after every call

pub in_use_needed : (M : Machine) → Demand2 M → Demand3 M → (o : Opening) (cs : List Call) → All Within cs → used (slots_of (bytes_after M o cs).shelf) ≡ length (needed (past M o cs))
in_use_needed M d e o cs ws =
    let h = past M o cs in
    in_use_is (bytes_after M o cs).shelf (needed h) (e.shelf o (d.opens o) cs ws) (λ v i. (any_told M d o cs ws).1.numbers v (in_right v h.live h.left (those_in (awaited h) h.left v i).0))

-- ---- so a change puts one entry to use at most

one_leaves_most : (k : ℕ) (h : History) → Past h → length (leaving k h.live) ≤ 1
one_leaves_most k h q = go (any (numbered k) h.live) refl
  where
    go : (b : Bool) → any (numbered k) h.live ≡ b → length (leaving k h.live) ≤ 1
    go true e = omega (arith, one-leaves k h.live q.numbers e)
    go false e = rw (those-none (numbered k) h.live (any_none (numbered k) h.live e)) (omega arith)

more-needed : (k : ℕ) (h : History) → Past h → length (those (awaited h) (leaving k h.live ++ h.left)) ≤ suc (length (needed h))
more-needed k h q =
    let p = awaited h in
    omega (arith, ap length (those-append p (leaving k h.live) h.left), length-append (those p (leaving k h.live)) (needed h), those_most p (leaving k h.live), one_leaves_most k h q)

module _ (T R : ℕ) (h : History) (q : Past h) (k : ℕ) (a : Answer) (out : List ℕ) where
  done_needs : (b : Option (List ℕ)) → Fulfils T R h (change k b) a out → length (needed (heard h (change k b) a out)) ≤ suc (length (needed h))
  unfolding Fulfils heard awaited
  done_needs none f = rw f (more-needed k h q)
  done_needs (some x) f = rw f (more-needed k h q)

changed_needs : (N T R : ℕ) (h : History) → Past h → (k : ℕ) (b : Option (List ℕ)) (a : Answer) (out : List ℕ) → Answers T R h (reason N T R h (change k b)) (change k b) a out
    → length (needed (heard h (change k b) a out)) ≤ suc (length (needed h))
changed_needs N T R h q k b a out f = go (reason N T R h (change k b)) f
  where
    go : (x : Option ℕ) → Answers T R h x (change k b) a out → length (needed (heard h (change k b) a out)) ≤ suc (length (needed h))
    go (some x) f = subst (λ (g : History). length (needed g) ≤ suc (length (needed h))) (sym (ap (λ (y : Answer). heard h (change k b) y out) f ∙ refused-heard h (change k b) x out)) (omega arith)
    go none f = done_needs T R h q k a out b f

pub shelves_for_each_caught : (M : Machine) → ShelvesForEach M → Demand2 M → Demand3 M → ⊥
unfolding bytes_after events tells
shelves_for_each_caught M s d e =
    let o = s.moment.opening in
    let cs = s.moment.calls in
    let ws = s.moment.within in
    let c = change s.number s.body in
    omega (
      arith,
      s.more,
      in_use_needed M d e o cs ws,
      in_use_needed M d e o (c ∷ cs) (s.passable, ws),
      changed_needs o.n (table_slots o) (shelf_entries o) (past M o cs) (any_told M d o cs ws).0 s.number s.body _ _ (d.answers o cs ws c s.passable),
    )
