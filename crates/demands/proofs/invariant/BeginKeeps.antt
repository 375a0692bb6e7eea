-- Begin keeps the invariant.
use mathlib.Core.Path.{◌≡◌, refl, sym, ap, ◌∙◌}
use mathlib.Core.Bool.{Bool, false, not, ◌&&◌, ◌||◌}
use mathlib.Core.Option.{Option, none, some}
use mathlib.Core.List.{List, []}
use Prim.Native.Nat.{ℕ, suc, ◌+◌, ◌<◌}
use native.Mathlib.Omega.{arith}
use lib.Dec.{eqb}
use lib.ListN.{get_or, set, length-set}
use lib.Seq.{get_or-set_same, get_or-set_other}
use Rattle.demands.specs.History.{Version, Scan, scan, awaits, awaited, needed, begins}
use Rattle.demands.specs.Lists.{any, Permutation}
use Rattle.demands.specs.Masks.{one_if, waits_for}
use Rattle.rules.specs.Calls.{given}
use Rattle.rules.specs.Masks.{bit, Masks, walk_begun}
use Rattle.rules.specs.Memory.{card, idle}
use Rattle.rules.proofs.TableOne.{clear_own, clear_other}
use Rattle.demands.proofs.lists.Apart.{apart_across}
use Rattle.demands.proofs.history.Awaits.{awaits-first, awaits-not}
use Rattle.stores.proofs.ChangesFine.{given_fine}
use Rattle.demands.proofs.invariant.Invariant.{SeatOK, Inv, n_64, busy, at_live, at_needed, slot_of}
use Rattle.demands.proofs.lists.Lists.{In, those-same}
use Rattle.demands.proofs.invariant.Marks.{set_both}
use Rattle.demands.proofs.invariant.Moment.{Moment, scans_move, looks_o, end, aw}
use Rattle.demands.proofs.invariant.ScanMoves.{scan-moves}
use Rattle.demands.proofs.history.Past.{change_of, begins-past}
use Rattle.demands.proofs.lists.Places.{standing-taken}

begun-stable : (m : Masks) (p : ℕ) → (walk_begun m p).stable ≡ m.stable
unfolding walk_begun
begun-stable m p = refl

begun_own : (m : Masks) (p : ℕ) → p < 64 → bit (walk_begun m p).local p ≡ 0
unfolding walk_begun
begun_own m p h = clear_own m.local p h

begun_other : (m : Masks) (p : ℕ) → p < 64 → (i : ℕ) → i < 64 → (i ≡ p → ⊥) → bit (walk_begun m p).local i ≡ bit m.local i
unfolding walk_begun
begun_other m p h i k d = clear_other m.local p h i k d

module _ {now : Moment} (q : Inv now) where
  -- a position whose active bit is 1 seats no scan
  pub free_seat : (p : ℕ) → bit now.store.desk.masks.active p ≡ 1 → get_or now.seats p none ≡ none
  free_seat p a = go (get_or now.seats p none) refl
    where
      go : (o : Option Scan) → get_or now.seats p none ≡ o → get_or now.seats p none ≡ none
      go none e = e
      go (some s) e = absurd (omega (arith, (busy q p s e).active))

  module _ (p : ℕ) (hp : p < now.n) (empty : get_or now.seats p none ≡ none) (resting : bit now.store.desk.masks.local p ≡ 1) (more : now.history.given < 4294967295) where
    abbrev newcomer : Scan
    newcomer = scan (suc now.history.given) now.history.live [] 0

    abbrev sc' : List (Option Scan)
    sc' = set now.seats p (some newcomer)

    hp64 : p < 64
    hp64 = omega (arith, n_64 q)

    hpn : p < now.store.desk.n
    hpn = omega (arith, q.is_n)

    own : get_or sc' p none ≡ some newcomer
    own = get_or-set_same now.seats p (some newcomer) none (omega (arith, q.seats))

    aw_own : (v : Version) → waits_for (get_or sc' p none) v ≡ awaits newcomer v
    aw_own v = ap (λ (o : Option Scan). waits_for o v) own

    -- what has left before it begins it does not begin with
    skips : (v : Version) → In v now.history.left → awaits newcomer v ≡ false
    skips v m = awaits-not newcomer v (λ u i z. apart_across change_of now.history.live now.history.left q.past.names u v i m z)

    needed-same : needed now.history ≡ needed (begins now.history (suc now.history.given))
    unfolding awaited
    needed-same = those-same (awaited now.history) (awaited (begins now.history (suc now.history.given))) now.history.left (λ v m. ap (λ (b : Bool). b || any (λ s. awaits s v) now.history.running) (sym (skips v m)))

    abbrev begun : Moment
    begun = scans_move now (given now.store p) (begins now.history (suc now.history.given)) sc'

    pub begin-keeps : Inv begun
    unfolding given
    begin-keeps =
        scan-moves now p begun.store.desk begun.history sc' q
        (record {
          fine = given_fine now.store q.fine p hpn (omega (arith, q.last));
          past = begins-past now.history q.past;
          is_n = q.is_n;
          last = omega (arith, q.last);
          live = refl;
          needs = needed-same;
          seats = length-set now.seats p (some newcomer) ∙ q.seats;
          seated = Permutation.both (standing-taken now.seats p newcomer empty (omega (arith, q.seats))) (Permutation.next q.seated);
          cards = set_both (λ i c o. i < 64 → SeatOK c o) (λ i c o. i < 64 → SeatOK c o) idle none now.store.desk.cards now.seats p (omega (arith, q.fine.sized.desk.all, hp64)) (omega (arith, q.seats))
              (card (now.store.desk.last + 1) 0 0 0) (some newcomer) (λ _. record { ticket = omega (arith, q.last); place = refl; handed = refl; rest = refl }) (λ i d x. x) q.cards;
          others = λ i d. get_or-set_other now.seats p i (some newcomer) none d;
          stable = λ i hi d. ap (λ (x : ℕ). bit x i) (begun-stable now.store.desk.masks p);
          local = λ i hi d. begun_other now.store.desk.masks p hp64 i hi d;
          slot = λ j v e.
              rw (begun-stable now.store.desk.masks p, begun_own now.store.desk.masks p hp64, aw_own v, awaits-first (suc now.history.given) 0 now.history.live v (at_live q j v e))
              ((slot_of q j v e).bits p hp64 ∙ ap (λ (x : ℕ). one_if (eqb x 0 && not (aw now p v))) resting);
          slot_past = λ j v e g. absurd (omega (arith, ap (looks_o (end now)) own));
          entry = λ k v e. ap (λ (o : Option Scan). waits_for o v) empty ∙ sym (aw_own v ∙ skips v (at_needed q k v e).0);
          entry_past = λ k v e g. aw_own v ∙ skips v (at_needed q k v e).0;
        })
