-- The life of a store under the calls of document 01: the invariant holds after every call, refused ones included.
use mathlib.Core.Path.{◌≡◌, refl, sym, ap, ◌∙◌, subst}
use mathlib.Core.Bool.{Bool, true, false, not, ◌&&◌, and-true, and-false}
use mathlib.Core.Option.{Option, none, some, some-ne-none}
use mathlib.Core.List.{List, [], ◌∷◌, map}
use Prim.Native.Nat.{ℕ, zero, suc, ◌+◌, ◌≤◌, ◌<◌}
use native.Mathlib.Omega.{arith}
use lib.ListN.{get_or, replicate, length-replicate}
use Rattle.demands.specs.DemandTwo.{Answers}
use Rattle.demands.specs.History.{Version, Scan, History, awaited, runs, heard, tells, untold}
use Rattle.rules.specs.Passed.{All, Well, LentBytes, LengthsRight}
use Rattle.demands.specs.Lists.{keep, Permutation}
use Rattle.demands.specs.Lives.{Opening, table_slots, shelf_entries, bytes_after, events, past}
use Rattle.demands.specs.Machine.{Within}
use Rattle.demands.specs.Placement.{lowest_of, lowest, Places, places, moves, places_after, placed, unplaced}
use Rattle.demands.specs.Reasons.{reason}
use Rattle.rules.specs.Calls.{opened, slot_in}
use Rattle.rules.specs.Memory.{Lent, free, idle, R, store_of, read, written}
use Rattle.rules.specs.Refusals.{Call, Reply, own_right, all_right, first_of, own_refusals, looks_at_desk, refusals, effect, refused_as, out_of, written_all, replied, called}
use Rattle.rules.specs.Sound.{sound, n_in_range}
use Rattle.stores.proofs.FirstOf.{no_refusal, same_first, skip_first}
use Rattle.stores.proofs.ChangesFine.{opened_fine}
use Rattle.stores.proofs.Codec.{read-written}
use Rattle.demands.proofs.page.DemandOne.{accepted, demand_1}
use Rattle.demands.proofs.invariant.Invariant.{SeatOK, Inv}
use Rattle.demands.proofs.invariant.Marks.{OK}
use Rattle.demands.proofs.invariant.Moment.{Moment, moment, scans_move, table_of, shelf_of}
use Rattle.demands.proofs.invariant.NextKeeps.{shelf-awaited}
use Rattle.demands.proofs.history.Past.{opened-past}
use Rattle.demands.proofs.lists.Places.{standing-none}
use Rattle.demands.proofs.invariant.Positions.{tickets, all-run}
use Rattle.demands.proofs.invariant.ReasonsAre.{reasons_are}
use Rattle.stores.proofs.Sizes.{replicate-all}
use Rattle.stores.proofs.SoundDesk.{of_sound, range}
use Rattle.stores.proofs.Spelling.{to_lengths, count-read}
use Rattle.demands.proofs.invariant.Steps.{Stepped, steps}

pub accepted_is : (l : Lent) (c : Call) → first_of (refusals l c) ≡ none → called l c ≡ written_all (effect (read l) c)
unfolding called replied
accepted_is l c e = rw e refl

pub refused_is : (l : Lent) (c : Call) (k : ℕ) → first_of (refusals l c) ≡ some k → called l c ≡ replied (some k) l c
unfolding called
refused_is l c k e = rw e refl

-- a store of N positions, T slots and R entries that has lived so
pub record Living (n t r : ℕ) (l : Lent) (h : History) (p : Places) : Type 0 where
  pub bytes : LentBytes l
  pub lengths : LengthsRight l
  pub seats : List (Option Scan)
  pub keeps : Inv (moment n t r (read l) h p.table p.shelf seats)
  pub sits : p.positions ≡ tickets seats

pub well : (c : Call) → Within c → Well c
well (Call.opening n) w = w.0
well (Call.change c) w = w
well Call.begin w = w
well (Call.next t b o) w = w
well (Call.reading q) w = w

-- ---- the opening

-- the first moment of a store
abbrev first_moment : ℕ → ℕ → ℕ → Moment
first_moment n t r = moment n t r (opened n t r) untold (unplaced n t r).table (unplaced n t r).shelf (replicate n none)

opened_inv : (n t r : ℕ) → n_in_range n ≡ true → 1 ≤ t → t + r < 4294967296 → Inv (first_moment n t r)
unfolding opened
opened_inv n t r hn ht hs =
    record {
      fine = opened_fine n t r hn ht hs;
      past = opened-past;
      is_n = refl;
      is_t = length-replicate t free;
      is_r = length-replicate r free;
      last = refl;
      slots = length-replicate t none;
      entries = length-replicate r none;
      seats = length-replicate n none;
      seated = subst (λ (l : List Scan). Permutation l []) (sym (standing-none n)) Permutation.empty;
      cards = λ i hi. card i;
      table_marks = λ j. subst (OK (first_moment n t r) (table_of (first_moment n t r)) j (slot_in (replicate t free) j)) (sym (empty t j)) (freed t j);
      shelf_marks = λ k. subst (OK (first_moment n t r) (shelf_of (first_moment n t r)) k (slot_in (replicate r free) k)) (sym (empty r k)) (freed r k);
      tabled = subst (λ (l : List Version). Permutation l []) (sym (standing-none t)) Permutation.empty;
      shelved = subst (λ (l : List Version). Permutation l []) (sym (standing-none r)) Permutation.empty;
    }
  where
    empty : (m i : ℕ) → get_or (replicate {A = Option Version} m none) i none ≡ none
    empty m i = replicate-all (λ o. o ≡ none) none m none refl refl i

    freed : (m i : ℕ) → slot_in (replicate m free) i ≡ free
    freed m i = replicate-all (λ s. s ≡ free) free m free refl refl i

    card : (i : ℕ) → SeatOK (get_or (replicate 64 idle) i idle) (get_or (replicate {A = Option Scan} n none) i none)
    card i = subst (SeatOK (get_or (replicate 64 idle) i idle)) (sym (replicate-all (λ o. o ≡ none) none n none refl refl i)) (replicate-all (λ c. c.ticket.0 ≡ 0) idle 64 idle refl refl i)

module _ (o : Opening) where
  unrefused : first_of (refusals o.old (Call.opening o.n)) ≡ none
  unfolding refusals own_refusals own_right looks_at_desk
  unrefused =
      skip_first _ 1 _ (ap not o.lengths) ∙ skip_first false 2 _ refl ∙ skip_first _ 3 _ (ap not o.in_range) ∙ no_refusal

  pub opening_is : called o.old (Call.opening o.n) ≡ written_all (effect (read o.old) (Call.opening o.n))
  opening_is = accepted_is o.old (Call.opening o.n) unrefused

  -- the bytes after it depend on N, T and R alone
  pub opening_writes : bytes_after called o [] ≡ written (opened o.n (table_slots o) (shelf_entries o))
  unfolding bytes_after effect store_of
  opening_writes =
      ap (λ (r : Reply). r.after) opening_is
      ∙ ap (λ (t : ℕ). written (opened o.n t (R (read o.old)))) (count-read o.old.table) ∙ ap (λ (r : ℕ). written (opened o.n (table_slots o) r)) (count-read o.old.shelf)

  opened_inv_of : Inv (first_moment o.n (table_slots o) (shelf_entries o))
  opened_inv_of =
      let z = to_lengths o.old o.lengths in
      opened_inv o.n (table_slots o) (shelf_entries o) o.in_range z.slots (omega (arith, z.slots_most, z.entries_most))

  pub opening-reads : read (bytes_after called o []) ≡ opened o.n (table_slots o) (shelf_entries o)
  opening-reads = ap read opening_writes ∙ read-written (opened o.n (table_slots o) (shelf_entries o)) opened_inv_of.fine.sized

  pub opening_lives : Living o.n (table_slots o) (shelf_entries o) (bytes_after called o []) (past called o []) (places_after called lowest o [])
  unfolding bytes_after events tells placed
  opening_lives =
      let w = demand_1.lengths o.old (Call.opening o.n) o.bytes (small o.n o.in_range) in
      record {
        bytes = demand_1.bytes o.old (Call.opening o.n) o.bytes (small o.n o.in_range);
        lengths = rw (w.desk, w.table, w.shelf) o.lengths;
        seats = replicate o.n none;
        keeps = subst Inv (λ i. scans_move (first_moment o.n (table_slots o) (shelf_entries o)) (sym opening-reads i) (past called o []) (replicate o.n none)) opened_inv_of;
        sits = no_tickets o.n;
      }
    where
      no_tickets : (n : ℕ) → replicate n none ≡ tickets (replicate n none)
      no_tickets zero = refl
      no_tickets (suc n) = ap (λ (l : List (Option ℕ)). none ∷ l) (no_tickets n)

      small : (n : ℕ) → n_in_range n ≡ true → n < 4294967296
      small n e = let w = range n e in let y : n ≤ 64 = w.1 in omega arith

-- ---- a refused call tells nothing

pub refused-heard : (h : History) (c : Call) (k : ℕ) (o : List ℕ) → heard h c (refused_as c k) o ≡ h
unfolding heard refused_as
refused-heard h (Call.opening n) k o = refl
refused-heard h (Call.change c) k o = refl
refused-heard h Call.begin k o = refl
refused-heard h (Call.next t b u) k o = refl
refused-heard h (Call.reading q) k o = refl

pub refused-moves : (h : History) (p : Places) (c : Call) (k : ℕ) → map (keep (awaited h)) p.shelf ≡ p.shelf → map (keep (runs h)) p.positions ≡ p.positions → moves lowest_of h h p c (refused_as c k) ≡ p
unfolding moves refused_as
refused-moves h p (Call.opening n) k e f = refl
refused-moves h p (Call.change c) k e f = refl
refused-moves h p Call.begin k e f = refl
refused-moves h p (Call.next t b u) k e f = λ i. places p.table (e i) (f i)
refused-moves h p (Call.reading q) k e f = refl

-- ---- one more call

module _ {n t r : ℕ} {l : Lent} {h : History} {p : Places} (v : Living n t r l h p) (c : Call) (w : Within c) where
  -- 1 only for the call's own lengths, and never 2
  pub refusals_are : first_of (refusals l c) ≡ reason n t r h c
  unfolding refusals
  refusals_are =
      same_first (not (all_right l c)) (not (own_right c)) 1 ((looks_at_desk c && not (sound (read l)), 2) ∷ own_refusals (read l) c) (own_refusals (read l) c)
      (ap not (ap (λ (b : Bool). own_right c && b) v.lengths ∙ and-true (own_right c)))
      (λ _. skip_first (looks_at_desk c && not (sound (read l))) 2 (own_refusals (read l) c) (ap (λ (b : Bool). looks_at_desk c && not b) (of_sound (read l) v.keeps.fine.sound) ∙ and-false (looks_at_desk c)))
      ∙ reasons_are v.keeps c

  abbrev later : Reply → Places
  later x = moves lowest_of h (heard h c x.answer x.out) p c x.answer

  -- what a reply leaves, and says
  pub record Lived (x : Reply) : Type 0 where
    pub lives : Living n t r x.after (heard h c x.answer x.out) (later x)
    pub answers : Answers t r h (reason n t r h c) c x.answer x.out
    pub stepped : reason n t r h c ≡ none → Stepped v.keeps p.positions v.sits c x.answer (effect (read l) c).after x.out

  refused_lives : (k : ℕ) → reason n t r h c ≡ some k → Lived (replied (some k) l c)
  unfolding replied
  refused_lives k e =
      record {
        lives = subst (λ (y : Places). Living n t r l (heard h c (refused_as c k) (out_of c)) y) (sym same-places) (subst (λ (y : History). Living n t r l y p) (sym (refused-heard h c k (out_of c))) v);
        answers = rw e refl;
        stepped = λ f. absurd (some-ne-none k (sym e ∙ f));
      }
    where
      same-places : moves lowest_of h (heard h c (refused_as c k) (out_of c)) p c (refused_as c k) ≡ p
      same-places =
          ap (λ (y : History). moves lowest_of h y p c (refused_as c k)) (refused-heard h c k (out_of c))
          ∙ refused-moves h p c k (shelf-awaited v.keeps) (all-run v.keeps p.positions v.sits)

  accepted_lives : first_of (refusals l c) ≡ none → Lived (called l c)
  accepted_lives e =
      let a = accepted l c e in
      let s = steps v.keeps p.positions v.sits c w a.own a.others in
      let d = demand_1.lengths l c v.bytes (well c w) in
      let f : called l c ≡ written_all (effect (read l) c) = accepted_is l c e in
      let b = demand_1.bytes l c v.bytes (well c w) in
      let g : LengthsRight (called l c).after = rw (d.desk, d.table, d.shelf) v.lengths in
      subst Lived (sym f)
      (record {
        lives = record {
          bytes = subst (λ (y : Reply). LentBytes y.after) f b;
          lengths = subst (λ (y : Reply). LengthsRight y.after) f g;
          seats = s.seats;
          keeps = rw (read-written (effect (read l) c).after s.keeps.fine.sized) s.keeps;
          sits = s.sits;
        };
        answers = subst (λ (y : Option ℕ). Answers t r h y c (effect (read l) c).answer (effect (read l) c).out) (sym e ∙ refusals_are) s.fulfils;
        stepped = λ _. s;
      })

  pub call_lives : Lived (called l c)
  call_lives = go (first_of (refusals l c)) refl
    where
      go : (x : Option ℕ) → first_of (refusals l c) ≡ x → Lived (called l c)
      go none e = accepted_lives e
      go (some k) e = subst Lived (sym (refused_is l c k e)) (refused_lives k (sym refusals_are ∙ e))

-- ---- any calls

module _ (o : Opening) where
  pub all_live : (cs : List Call) → All Within cs → Living o.n (table_slots o) (shelf_entries o) (bytes_after called o cs) (past called o cs) (places_after called lowest o cs)
  unfolding bytes_after events tells placed
  all_live [] w = opening_lives o
  all_live (c ∷ cs) w = (call_lives (all_live cs w.1) c w.0).lives
