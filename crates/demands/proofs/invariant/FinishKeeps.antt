-- A scan that has looked at every place has handed out exactly what it began with, and its finish keeps the invariant.
use mathlib.Core.Path.{◌≡◌, refl, sym, ap, ◌∙◌, subst}
use mathlib.Core.Bool.{Bool, true, false, not, ◌&&◌}
use mathlib.Core.Option.{Option, none, some}
use mathlib.Core.List.{List, [], ◌++◌, map, append-nil}
use mathlib.Core.Logic.{◌⊎◌, inl, inr}
use Prim.Native.Nat.{ℕ, ◌+◌, ◌<◌}
use native.Mathlib.Omega.{arith}
use native.Mathlib.Decide.{ℕ_discrete}
use lib.ListN.{get_or, set}
use lib.Seq.{get_or-set_same, get_or-set_other}
use borrow.Author.Tests.{eq-eqb, ne_eqb}
use Rattle.demands.specs.DemandTwo.{ExactlyOnce}
use Rattle.demands.specs.History.{Version, Scan, reads, awaits, awaited, waiting, ticketed, finishes}
use Rattle.demands.specs.Lists.{any, those, standing, keep, Permutation}
use Rattle.demands.specs.Masks.{one_if, waits_for}
use Rattle.rules.specs.Calls.{card_of}
use Rattle.rules.specs.Masks.{off, ended}
use Rattle.rules.specs.Memory.{idle, T, R}
use Rattle.rules.specs.Next.{at_end, finish}
use Rattle.demands.proofs.lists.Apart.{apart_eq, apart_perm}
use Rattle.demands.proofs.invariant.Invariant.{SeatOK, Inv, position, seat, busy, runs_at, live_at, needed_at, slot_of, entry_of}
use Rattle.demands.proofs.lists.Lists.{In, clash, in_cases, any_in, in_any, those_in, in_those, those-none, those-same, back, perm_those}
use Rattle.stores.proofs.LooksFine.{finish_fine}
use Rattle.demands.proofs.invariant.Moment.{Moment, scans_move, end, aw_at, place_at}
use Rattle.demands.proofs.invariant.ScanMoves.{scan-moves}
use Rattle.demands.proofs.history.Past.{ticket_of, finishes-past}
use Rattle.demands.proofs.lists.Places.{At, at_below, one_place, standing-keep, get_or-keep, length-keep}

module _ {now : Moment} (q : Inv now) (p : ℕ) (s : Scan) (here : At now.seats p s) (end : s.looks ≡ end now) where
  hp : p < 64
  hp = position q p s here

  runs : In s now.history.running
  runs = runs_at q p s here

  -- ---- nothing is awaited any more

  in_table : (i : ℕ) (v : Version) → At now.table i v → awaits s v ≡ false
  in_table i v e = sym (aw_at now p s here v) ∙ (slot_of q i v e).passed p hp (omega (arith, place_at now p s here, at_below now.table i v e, q.slots))

  on_shelf_lem : (k : ℕ) (v : Version) → At now.shelf k v → awaits s v ≡ false
  on_shelf_lem k v e = sym (aw_at now p s here v) ∙ (entry_of q k v e).passed p hp (omega (arith, place_at now p s here, at_below now.shelf k v e, q.entries))

  has_left : (v : Version) → In v now.history.left → awaits s v ≡ false
  unfolding awaited
  has_left v m = go (awaits s v) refl
    where
      go : (b : Bool) → awaits s v ≡ b → awaits s v ≡ false
      go true e = let w = needed_at q v m (any_in (λ u. awaits u v) now.history.running s runs e) in on_shelf_lem w.0 v w.1
      go false e = e

  pub all-handed : waiting s ≡ []
  all-handed = those-none (awaits s) s.began (λ v m. go v (in_cases v now.history.live now.history.left ((q.past.scans s runs).from v m)))
    where
      go : (v : Version) → In v now.history.live ⊎ In v now.history.left → awaits s v ≡ false
      go v (inl m) = let w = live_at q v m in in_table w.0 v w.1
      go v (inr m) = has_left v m

  -- "exactly the records that .. had left when it began, as they read then, each once"
  pub exactly_once : ExactlyOnce s
  exactly_once =
      subst (λ (l : List (List ℕ)). Permutation l (map reads s.began)) (ap (λ (l : List Version). s.handed ++ map reads l) all-handed ∙ append-nil s.handed) (q.past.scans s runs).handing

  -- ---- the scan runs no more

  abbrev goes_on : Scan → Bool
  goes_on u = not (ticketed s.ticket u)

  abbrev seats_left : List (Option Scan)
  seats_left = map (keep goes_on) now.seats

  pub own : get_or seats_left p none ≡ none
  own = get_or-keep goes_on now.seats p ∙ ap (keep goes_on) here ∙ rw (eq-eqb s.ticket s.ticket refl) refl

  pub other : (i : ℕ) → (i ≡ p → ⊥) → get_or seats_left i none ≡ get_or now.seats i none
  other i d = get_or-keep goes_on now.seats i ∙ go (get_or now.seats i none) refl
    where
      go : (x : Option Scan) → get_or now.seats i none ≡ x → keep goes_on (get_or now.seats i none) ≡ get_or now.seats i none
      go none e = rw e refl
      go (some u) e =
          rw (e, ne_eqb u.ticket s.ticket (λ z. d (one_place ticket_of now.seats (apart_perm ticket_of now.history.running (standing now.seats) (back q.seated) q.past.tickets) i p u s e here z))) refl

  own_aw : (v : Version) → waits_for (get_or seats_left p none) v ≡ false
  own_aw v = ap (λ (o : Option Scan). waits_for o v) own

  -- what others await is awaited still
  awaited-same : (v : Version) → In v now.history.left → awaited (finishes now.history s.ticket) v ≡ awaited now.history v
  unfolding awaited
  awaited-same v m = go (awaited now.history v) refl (awaited (finishes now.history s.ticket) v) refl
    where
      rest : (u : Scan) → In u now.history.running → awaits u v ≡ true → goes_on u ≡ true
      rest u i e = rw (ne_eqb u.ticket s.ticket (λ z. clash (awaits s v) (sym (ap (λ (x : Scan). awaits x v) (apart_eq ticket_of now.history.running q.past.tickets u s i runs z)) ∙ e) (has_left v m))) refl

      go : (a : Bool) → any (λ u. awaits u v) now.history.running ≡ a → (b : Bool) → any (λ u. awaits u v) (those goes_on now.history.running) ≡ b → any (λ u. awaits u v) (those goes_on now.history.running) ≡ any (λ u. awaits u v) now.history.running
      go true x true y = y ∙ sym x
      go true x false y =
          let w = in_any (λ u. awaits u v) now.history.running x in
          clash (any (λ u. awaits u v) (those goes_on now.history.running)) (any_in (λ u. awaits u v) (those goes_on now.history.running) w.0 (in_those goes_on now.history.running w.0 w.1 (rest w.0 w.1 w.2)) w.2) y
      go false x true y =
          let w = in_any (λ u. awaits u v) (those goes_on now.history.running) y in
          clash (any (λ u. awaits u v) now.history.running) (any_in (λ u. awaits u v) now.history.running w.0 (those_in goes_on now.history.running w.0 w.1).0 w.2) x
      go false x false y = y ∙ sym x

  at_end_lem : at_end now.store p ≡ true
  at_end_lem = eq-eqb (card_of now.store p).place (T now.store + R now.store) (omega (arith, (seat q p s here).place, q.is_t, q.is_r))

  abbrev finished : Moment
  finished = scans_move now (finish now.store p) (finishes now.history s.ticket) seats_left

  pub finish-keeps : Inv finished
  unfolding finish ended
  finish-keeps =
      scan-moves now p finished.store.desk finished.history seats_left q
      (record {
        fine = finish_fine now.store q.fine p hp (busy q p s here) at_end_lem;
        past = finishes-past now.history q.past s.ticket;
        is_n = q.is_n;
        last = q.last;
        live = refl;
        needs = those-same (awaited now.history) (awaited (finishes now.history s.ticket)) now.history.left (λ v m. sym (awaited-same v m));
        seats = length-keep goes_on now.seats ∙ q.seats;
        seated = subst (λ (l : List Scan). Permutation l (those goes_on now.history.running)) (sym (standing-keep goes_on now.seats)) (perm_those goes_on (standing now.seats) now.history.running q.seated);
        cards = λ i hi. cards i hi (ℕ_discrete i p);
        others = other;
        stable = λ i hi d. refl;
        local = λ i hi d. refl;
        slot = λ i v e. (slot_of q i v e).bits p hp ∙ ap (λ (b : Bool). one_if (off now.store.desk.masks.local p && not b)) (aw_at now p s here v ∙ in_table i v e ∙ sym (own_aw v));
        slot_past = λ i v e g. own_aw v;
        entry = λ k v e. aw_at now p s here v ∙ on_shelf_lem k v e ∙ sym (own_aw v);
        entry_past = λ k v e g. own_aw v;
      })
    where
      cards : (i : ℕ) → i < 64 → Dec (i ≡ p) → SeatOK (get_or (set now.store.desk.cards p idle) i idle) (get_or seats_left i none)
      cards i hi (yes z) = rw (z, own, get_or-set_same now.store.desk.cards p idle idle (omega (arith, hp, q.fine.sized.desk.all))) refl
      cards i hi (no z) = rw (get_or-set_other now.store.desk.cards p i idle idle z, other i z) (q.cards i hi)
