-- The tickets at the positions, as the store seats scans.
use mathlib.Core.Path.{◌≡◌, refl, sym, ap, ◌∙◌}
use mathlib.Core.Option
use mathlib.Core.Option.{Option, none, some}
use mathlib.Core.List.{List, [], ◌∷◌, map}
use Prim.Native.Nat.{ℕ, zero, suc, ◌<◌}
use native.Mathlib.Omega.{arith}
use native.Mathlib.Decide.{ℕ_discrete}
use lib.ListN.{length, get_or, set}
use lib.Seq.{ext_get_or}
use borrow.Author.Tests.{eq-eqb}
use Rattle.demands.specs.History.{Scan, History, runs}
use Rattle.demands.specs.Lists.{keep}
use Rattle.demands.specs.Placement.{is_empty, lowest_empty, scan_with}
use Rattle.rules.specs.Calls.{first, free_position}
use Rattle.rules.specs.Masks.{on}
use Rattle.rules.proofs.First.{first-same}
use Rattle.demands.proofs.invariant.Invariant.{Inv, busy, resting, runs_at, n_64}
use Rattle.demands.proofs.invariant.Moment.{Moment}
use Rattle.demands.proofs.invariant.NextKeeps.{ticket-runs}
use Rattle.demands.proofs.history.Past.{ticket_of}
use Rattle.demands.proofs.lists.Places.{At, get_d_map, get_or-keep, length-keep, length-places}
use Rattle.demands.proofs.invariant.ReasonsAre.{scan_of_lem}

abbrev pub tickets : List (Option Scan) → List (Option ℕ)
tickets sc = map (Option.map ticket_of) sc

map-set : {A B : Type 0} (f : A → B) (l : List A) (i : ℕ) (a : A) → set (map f l) i (f a) ≡ map f (set l i a)
map-set f [] i a = refl
map-set f (x ∷ l) zero a = refl
map-set {B = B} f (x ∷ l) (suc i) a = ap (λ (m : List B). f x ∷ m) (map-set f l i a)

module _ {now : Moment} (q : Inv now) where
  -- the position that begin takes is the lowest empty one
  free_is : free_position now.store ≡ lowest_empty (tickets now.seats)
  free_is =
      first-same (λ i. on now.store.desk.masks.active i) (λ i. is_empty (get_or (tickets now.seats) i none)) 0 now.store.desk.n (λ i from k. test i (omega (arith, q.is_n)))
      ∙ ap (λ (m : ℕ). first (λ i. is_empty (get_or (tickets now.seats) i none)) 0 m) (q.is_n ∙ sym q.seats ∙ sym (length-places ticket_of now.seats))
    where
      test : (i : ℕ) → i < now.n → on now.store.desk.masks.active i ≡ is_empty (get_or (tickets now.seats) i none)
      test i k = go (get_or now.seats i none) refl ∙ ap is_empty (sym (get_d_map ticket_of now.seats i))
        where
          go : (o : Option Scan) → get_or now.seats i none ≡ o → on now.store.desk.masks.active i ≡ is_empty (Option.map ticket_of (get_or now.seats i none))
          go none e = eq-eqb _ _ (resting q i (omega (arith, n_64 q)) e).active ∙ ap (λ (o : Option Scan). is_empty (Option.map ticket_of o)) (sym e)
          go (some s) e = rw (busy q i s e).active refl ∙ ap (λ (o : Option Scan). is_empty (Option.map ticket_of o)) (sym e)

  pub begun_sits : (k : ℕ) (s : Scan) → k ≡ s.ticket → set (tickets now.seats) (lowest_empty (tickets now.seats)) (some k) ≡ tickets (set now.seats (free_position now.store) (some s))
  begun_sits k s e = rw (← free_is, e) (map-set (Option.map ticket_of) now.seats (free_position now.store) (some s))

  -- every ticket at a position runs
  running : (i : ℕ) → keep (runs now.history) (get_or (tickets now.seats) i none) ≡ get_or (tickets now.seats) i none
  running i = rw (get_d_map ticket_of now.seats i) (go (get_or now.seats i none) refl)
    where
      go : (o : Option Scan) → get_or now.seats i none ≡ o → keep (runs now.history) (Option.map ticket_of (get_or now.seats i none)) ≡ Option.map ticket_of (get_or now.seats i none)
      go none e = rw e refl
      go (some s) e = rw (e, ticket-runs q i s e) refl

  pub all-run : (ps : List (Option ℕ)) → ps ≡ tickets now.seats → map (keep (runs now.history)) ps ≡ ps
  all-run ps e = ap (map (keep (runs now.history))) e ∙ ext_get_or none (map (keep (runs now.history)) (tickets now.seats)) (tickets now.seats) (length-keep (runs now.history) (tickets now.seats)) (λ i _. get_or-keep (runs now.history) (tickets now.seats) i ∙ running i) ∙ sym e

  -- the running scan at a position is the one that is seated there
  pub sitting_is : (ps : List (Option ℕ)) → ps ≡ tickets now.seats → (i : ℕ) → scan_with now.history (get_or ps i none) ≡ get_or now.seats i none
  sitting_is ps e i = ap (λ (l : List (Option ℕ)). scan_with now.history (get_or l i none)) e ∙ ap (scan_with now.history) (get_d_map ticket_of now.seats i) ∙ go (get_or now.seats i none) refl
    where
      go : (o : Option Scan) → get_or now.seats i none ≡ o → scan_with now.history (Option.map ticket_of (get_or now.seats i none)) ≡ get_or now.seats i none
      go none z = rw z refl
      go (some s) z = rw z (scan_of_lem q s (runs_at q i s z))

-- the scan at p has gone on, or finished
module _ {now : Moment} (q : Inv now) (p : ℕ) (s : Scan) (here : At now.seats p s) where
  module _ {after : Moment} (k : Inv after) (same : after.n ≡ now.n) where
    abbrev seats : List (Option Scan)
    seats = after.seats

    abbrev g : History
    g = after.history

    pub next_sits : ((i : ℕ) → (i ≡ p → ⊥) → get_or seats i none ≡ get_or now.seats i none) → keep (runs g) (some s.ticket) ≡ Option.map ticket_of (get_or seats p none)
        → map (keep (runs g)) (tickets now.seats) ≡ tickets seats
    next_sits others own = ext_get_or none (map (keep (runs g)) (tickets now.seats)) (tickets seats) long (λ i _. get_or-keep (runs g) (tickets now.seats) i ∙ go i (ℕ_discrete i p))
      where
        long : length (map (keep (runs g)) (tickets now.seats)) ≡ length (tickets seats)
        long = length-keep (runs g) (tickets now.seats) ∙ length-places ticket_of now.seats ∙ q.seats ∙ sym (length-places ticket_of seats ∙ k.seats ∙ same)

        go : (i : ℕ) → Dec (i ≡ p) → keep (runs g) (get_or (tickets now.seats) i none) ≡ get_or (tickets seats) i none
        go i (yes z) = rw (z, get_d_map ticket_of now.seats p, here, get_d_map ticket_of seats p) own
        go i (no z) =
            let e : get_or (tickets now.seats) i none ≡ get_or (tickets seats) i none = get_d_map ticket_of now.seats i ∙ ap (Option.map ticket_of) (sym (others i z)) ∙ sym (get_d_map ticket_of seats i) in
            ap (keep (runs g)) e ∙ running k i
