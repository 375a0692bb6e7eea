-- A scan goes on: what that does to the running scans, to what is awaited and to what is needed.
use mathlib.Core.Path.{◌≡◌, refl, sym, ap, ◌∙◌, subst}
use mathlib.Core.Bool.{Bool, true, false, ◌||◌, cond, false≢true}
use mathlib.Core.Option
use mathlib.Core.Option.{Option, none, some}
use mathlib.Core.List.{List, [], ◌∷◌, map}
use Prim.Native.Nat.{ℕ, ◌<◌}
use native.Mathlib.Omega.{arith}
use native.Mathlib.Decide.{ℕ_discrete}
use lib.ListN.{length, get_or, set}
use lib.Seq.{get_or-set_same, get_or-set_other}
use borrow.Author.Tests.{eqb-true, eqb-false, eq-eqb, ne_eqb}
use Rattle.demands.specs.History.{Version, Scan, History, reads, awaits, awaited, needed, ticketed, onward, goes_on, goes}
use Rattle.demands.specs.Lists.{any, those, standing, keep, Permutation}
use Rattle.demands.specs.Masks.{waits_for}
use Rattle.rules.specs.declared.Card.{Card}
use Rattle.rules.specs.Memory.{idle}
use Rattle.demands.proofs.lists.Apart.{apart_eq, apart_perm}
use Rattle.demands.proofs.history.Awaits.{awaits_other, awaits_less}
use Rattle.demands.proofs.invariant.Invariant.{Seated, SeatOK, Inv, n_64, position, runs_at}
use Rattle.demands.proofs.lists.Lists.{In, any_in, in_any, any_same, those-those, back, perm_in, perm_map, perm_those, map_in}
use Rattle.demands.proofs.invariant.Marks.{set_both}
use Rattle.demands.proofs.invariant.Moment.{Moment}
use Rattle.demands.proofs.history.Past.{ever, ticket_of, awaited-began}
use Rattle.demands.proofs.lists.Places.{At, at_below, at_standing, standing_at, one_place, standing-map, get_d_map, length-places, standing-keep}

any-map : {A : Type 0} (f : A → A) (p : A → Bool) (l : List A) → any p (map f l) ≡ any (λ x. p (f x)) l
any-map f p [] = refl
any-map f p (x ∷ l) = ap (λ (b : Bool). p (f x) || b) (any-map f p l)

-- the seats once scan s has made k looks that brought o
abbrev pub seats_on : Moment → Scan → ℕ → List (List ℕ) → List (Option Scan)
seats_on m s k o = map (Option.map (goes_on s.ticket k o)) m.seats

module _ {now : Moment} (q : Inv now) (p : ℕ) (s : Scan) (here : At now.seats p s) (k : ℕ) (o : List (List ℕ)) where
  -- the scan at p after k looks that brought o
  abbrev on : Scan
  on = onward k o s

  abbrev seats_on_lem : List (Option Scan)
  seats_on_lem = seats_on now s k o

  abbrev history_on : History
  history_on = goes now.history s.ticket k o

  own_goes : goes_on s.ticket k o s ≡ on
  own_goes = rw (eq-eqb s.ticket s.ticket refl) refl

  other_goes : (u : Scan) → (u.ticket ≡ s.ticket → ⊥) → goes_on s.ticket k o u ≡ u
  other_goes u d = rw (ne_eqb u.ticket s.ticket d) refl

  pub own : get_or seats_on_lem p none ≡ some on
  own = get_d_map (goes_on s.ticket k o) now.seats p ∙ ap (Option.map (goes_on s.ticket k o)) here ∙ ap some own_goes

  pub other : (i : ℕ) → (i ≡ p → ⊥) → get_or seats_on_lem i none ≡ get_or now.seats i none
  other i d = get_d_map (goes_on s.ticket k o) now.seats i ∙ go (get_or now.seats i none) refl
    where
      go : (x : Option Scan) → get_or now.seats i none ≡ x → Option.map (goes_on s.ticket k o) (get_or now.seats i none) ≡ get_or now.seats i none
      go none e = rw e refl
      go (some u) e =
          rw e (ap some (other_goes u (λ z. d (one_place ticket_of now.seats (apart_perm ticket_of now.history.running (standing now.seats) (back q.seated) q.past.tickets) i p u s e here z))))

  pub on_seats : length seats_on_lem ≡ now.n
  on_seats = length-places (goes_on s.ticket k o) now.seats ∙ q.seats

  pub on_seated : Permutation (standing seats_on_lem) history_on.running
  on_seated = subst (λ (l : List Scan). Permutation l history_on.running) (sym (standing-map (goes_on s.ticket k o) now.seats)) (perm_map (goes_on s.ticket k o) (standing now.seats) now.history.running q.seated)

  pub on_cards : (c : Card) → Seated c on → (i : ℕ) → i < 64 → SeatOK (get_or (set now.store.desk.cards p c) i idle) (get_or seats_on_lem i none)
  on_cards c ok i hi =
      rw (other_set i) (set_both (λ i c x. i < 64 → SeatOK c x) (λ i c x. i < 64 → SeatOK c x) idle none now.store.desk.cards now.seats p (omega (arith, position q p s here, q.fine.sized.desk.all))
      (at_below now.seats p s here) c (some on) (λ _. ok) (λ i d x. x) q.cards i hi)
    where
      other_set : (i : ℕ) → get_or seats_on_lem i none ≡ get_or (set now.seats p (some on)) i none
      other_set i = go (ℕ_discrete i p)
        where
          go : Dec (i ≡ p) → get_or seats_on_lem i none ≡ get_or (set now.seats p (some on)) i none
          go (yes z) = rw z (own ∙ sym (get_or-set_same now.seats p (some on) none (at_below now.seats p s here)))
          go (no z) = other i z ∙ sym (get_or-set_other now.seats p i (some on) none z)

  -- ---- what is awaited

  -- whoever else awaits a version still does
  pub awaited-same : (v : Version) → awaits on v ≡ awaits s v → awaited history_on v ≡ awaited now.history v
  unfolding awaited
  awaited-same v e = any-map (goes_on s.ticket k o) (λ u. awaits u v) now.history.running ∙ any_same (λ u. awaits (goes_on s.ticket k o u) v) (λ u. awaits u v) now.history.running each
    where
      each : (u : Scan) → In u now.history.running → awaits (goes_on s.ticket k o u) v ≡ awaits u v
      each u m = go (ticketed s.ticket u) refl
        where
          go : (b : Bool) → ticketed s.ticket u ≡ b → awaits (goes_on s.ticket k o u) v ≡ awaits u v
          go true d =
              let z : u ≡ s = apart_eq ticket_of now.history.running q.past.tickets u s m (runs_at q p s here) (eqb-true _ _ d) in
              rw z (ap (λ (x : Scan). awaits x v) own_goes ∙ e)
          go false d = ap (λ (x : Scan). awaits x v) (other_goes u (eqb-false _ _ d))

  pub on_awaited : (v : Version) (i : ℕ) → waits_for (get_or seats_on_lem i none) v ≡ true → awaited history_on v ≡ true
  unfolding awaited
  on_awaited v i e = go (get_or seats_on_lem i none) refl
    where
      go : (x : Option Scan) → get_or seats_on_lem i none ≡ x → any (λ u. awaits u v) history_on.running ≡ true
      go none d = absurd (false≢true (sym (ap (λ (x : Option Scan). waits_for x v) d) ∙ e))
      go (some u) d = any_in (λ u. awaits u v) history_on.running u (perm_in u (standing seats_on_lem) history_on.running on_seated (at_standing seats_on_lem i u d)) (sym (ap (λ (x : Option Scan). waits_for x v) d) ∙ e)

  pub awaited_on : (v : Version) → awaited history_on v ≡ true → (i : ℕ) × (i < 64) × (waits_for (get_or seats_on_lem i none) v ≡ true)
  unfolding awaited
  awaited_on v e =
      let w = in_any (λ u. awaits u v) history_on.running e in
      let x = standing_at seats_on_lem w.0 (perm_in w.0 history_on.running (standing seats_on_lem) (back on_seated) w.1) in
      (x.0, omega (arith, at_below seats_on_lem x.0 w.0 x.1, on_seats, n_64 q), ap (λ (y : Option Scan). waits_for y v) x.1 ∙ w.2)

  -- what is still needed of what was needed
  pub on_shelved : ((v : Version) → awaited history_on v ≡ true → awaited now.history v ≡ true) → Permutation (standing (map (keep (awaited history_on)) now.shelf)) (needed history_on)
  on_shelved less =
      subst (λ (l : List Version). Permutation l (needed history_on)) (sym (standing-keep (awaited history_on) now.shelf))
      (subst (λ (l : List Version). Permutation (those (awaited history_on) (standing now.shelf)) l) (those-those (awaited now.history) (awaited history_on) now.history.left less)
      (perm_those (awaited history_on) (standing now.shelf) (needed now.history) q.shelved))

module _ {now : Moment} (q : Inv now) (p : ℕ) (s : Scan) (here : At now.seats p s) (k : ℕ) where
  -- a version handed out by the scan
  module _ (v : Version) (ever_v : In v (ever now.history)) (a : awaits s v ≡ true) where
    runs : In s now.history.running
    runs = runs_at q p s here

    pub began_v : In v s.began
    began_v = awaited-began now.history q.past s runs v ever_v a

    pub handed_other : (u : Version) → In u (ever now.history) → (u ≡ v → ⊥) → awaits (onward k (reads v ∷ []) s) u ≡ awaits s u
    handed_other u m d =
        awaits_other k s u v (q.past.small u m) (q.past.small v ever_v)
        (λ e z. d (apart_eq (λ (x : Version). x.number) s.began (q.past.scans s runs).numbers u v (awaited-began now.history q.past s runs u m e) began_v z))

    pub handed_less : (u : Version) → awaited (goes now.history s.ticket k (reads v ∷ [])) u ≡ true → awaited now.history u ≡ true
    unfolding awaited
    handed_less u e =
        let w = in_any (λ x. awaits x u) (map (goes_on s.ticket k (reads v ∷ [])) now.history.running) e in
        let x = map_in (goes_on s.ticket k (reads v ∷ [])) now.history.running w.0 w.1 in
        any_in (λ x. awaits x u) now.history.running x.0 x.1 (go x.0 (ticketed s.ticket x.0) refl (sym (ap (λ (y : Scan). awaits y u) x.2) ∙ w.2))
      where
        go : (y : Scan) (b : Bool) → ticketed s.ticket y ≡ b → awaits (goes_on s.ticket k (reads v ∷ []) y) u ≡ true → awaits y u ≡ true
        go y true d f = awaits_less k (reads v) y u (sym (ap (λ (b : Bool). awaits (cond b (onward k (reads v ∷ []) y) y) u) d) ∙ f)
        go y false d f = sym (ap (λ (b : Bool). awaits (cond b (onward k (reads v ∷ []) y) y) u) d) ∙ f
