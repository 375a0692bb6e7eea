-- The calls of document 01 move the masks as Table I has it.
use mathlib.Core.Path.{◌≡◌, refl, sym, ap, ◌∙◌, subst}
use mathlib.Core.Bool.{Bool, true, false, not, false≢true}
use mathlib.Core.Option.{Option, none, some}
use mathlib.Core.List.{List, ◌∷◌}
use mathlib.Core.Logic.{◌⊎◌, inl, inr}
use Prim.Native.Nat.{ℕ, ◌<◌}
use native.Mathlib.Omega.{arith}
use lib.ListN.{get_or}
use Rattle.demands.specs.DemandTwo.{Answers}
use Rattle.demands.specs.History.{Version, Scan, History, inserted, modified, deleted, ticketed, on_done, on_begun, on_next, heard, tells}
use Rattle.rules.specs.Passed.{All}
use Rattle.demands.specs.Lists.{first_that}
use Rattle.demands.specs.Lives.{Opening, table_slots, shelf_entries, Accepted, bytes_after, events, past}
use Rattle.demands.specs.Machine.{Within}
use Rattle.demands.specs.Masks.{one_if, waits_for, walking, waits, in_slot, in_entry, MasksMean, MasksMove}
use Rattle.demands.specs.Placement.{lowest_of, lowest, Places, moves, placed, scan_with, sitting, places_after, stands_at}
use Rattle.demands.specs.Reasons.{reason}
use Rattle.demands.specs.TableOne.{Moved, TableOne}
use Rattle.rules.specs.Answers.{Answer, Draw}
use Rattle.rules.specs.Refusals.{Call, Change, refused_as, called}
use Rattle.demands.proofs.lists.Apart.{apart_across}
use Rattle.demands.proofs.invariant.Invariant.{at_live, at_needed, runs_at, beyond}
use Rattle.demands.proofs.lists.Lists.{in_left}
use Rattle.demands.proofs.page.Lives.{Living, Lived, all_live, call_lives, refused-heard, refused-moves}
use Rattle.demands.proofs.page.TableOneMoves.{read_by, local-moves, stable-moves, active-moves, remset-moves, status-moves, shelved_with, made_with}
use Rattle.demands.proofs.page.MasksMove.{masks_move}
use Rattle.demands.proofs.invariant.NextKeeps.{shelf-awaited}
use Rattle.demands.proofs.history.Past.{change_of, unmade}
use Rattle.demands.proofs.invariant.Positions.{all-run, sitting_is}

-- ---- a change moves no scan, and no other call makes a version or lets one leave

scan_with_lem : (g h : History) → g.running ≡ h.running → (t : Option ℕ) → scan_with g t ≡ scan_with h t
scan_with_lem g h e none = refl
scan_with_lem g h e (some t) = ap (first_that (ticketed t)) e

module _ (g h : History) (q p : Places) (e : g.running ≡ h.running) (f : q.positions ≡ p.positions) (i : ℕ) where
  on_done_lem : (a : Answer) → sitting (on_done a g h) (on_done a q p) i ≡ sitting h p i
  on_done_lem Answer.done = scan_with_lem g h e (get_or q.positions i none) ∙ ap (λ (l : List (Option ℕ)). scan_with h (get_or l i none)) f
  on_done_lem (Answer.begun t) = refl
  on_done_lem (Answer.drew d) = refl
  on_done_lem (Answer.shown s) = refl
  on_done_lem (Answer.refused k) = refl

abbrev Kept : History → History → Type 0
Kept g h = (g.left ≡ h.left) × (g.changes ≡ h.changes)

on_begun_lem : (a : Answer) (h : History) → Kept (on_begun a h) h
on_begun_lem Answer.done h = (refl, refl)
on_begun_lem (Answer.begun t) h = (refl, refl)
on_begun_lem (Answer.drew d) h = (refl, refl)
on_begun_lem (Answer.shown s) h = (refl, refl)
on_begun_lem (Answer.refused k) h = (refl, refl)

on_next_lem : (a : Answer) (h : History) (t : ℕ) (o : List ℕ) → Kept (on_next a h t o) h
on_next_lem Answer.done h t o = (refl, refl)
on_next_lem (Answer.begun u) h t o = (refl, refl)
on_next_lem (Answer.drew (Draw.in_hand l b)) h t o = (refl, refl)
on_next_lem (Answer.drew (Draw.paused l)) h t o = (refl, refl)
on_next_lem (Answer.drew (Draw.finished l b n)) h t o = (refl, refl)
on_next_lem (Answer.shown s) h t o = (refl, refl)
on_next_lem (Answer.refused k) h t o = (refl, refl)

calm_or_kept : (h g : History) (p : Places) (c : Call) (a : Answer) (out : List ℕ) → ((i : ℕ) → sitting (heard h c a out) (moves lowest_of h g p c a) i ≡ sitting h p i) ⊎ Kept (heard h c a out) h
unfolding heard moves
calm_or_kept h g p (Call.opening n) a out = inl (λ i. refl)
calm_or_kept h g p (Call.change (Change.insert k b)) a out = inl (λ i. on_done_lem (inserted h k b) h _ p refl refl i a)
calm_or_kept h g p (Call.change (Change.modify k b)) a out = inl (λ i. on_done_lem (modified h k b) h _ p refl refl i a)
calm_or_kept h g p (Call.change (Change.delete k)) a out = inl (λ i. on_done_lem (deleted h k) h _ p refl refl i a)
calm_or_kept h g p Call.begin a out = inr (on_begun_lem a h)
calm_or_kept h g p (Call.next t b o) a out = inr (on_next_lem a h t out)
calm_or_kept h g p (Call.reading q) a out = inl (λ i. refl)

-- ---- one call of a life

module _ (o : Opening) (acc : Accepted called o) (cs : List Call) (c : Call) (ws : All Within (c ∷ cs)) where
  v : Living o.n (table_slots o) (shelf_entries o) (bytes_after called o cs) (past called o cs) (places_after called lowest o cs)
  v = all_live o cs ws.1

  u : Living o.n (table_slots o) (shelf_entries o) (bytes_after called o (c ∷ cs)) (past called o (c ∷ cs)) (places_after called lowest o (c ∷ cs))
  u = all_live o (c ∷ cs) ws

  stands : (i : ℕ) → stands_at called lowest o cs i ≡ get_or v.seats i none
  stands i = sitting_is v.keeps (places_after called lowest o cs).positions v.sits i

  -- a call moves the scan of one position at most
  one-moves : (mover : ℕ) × ((i : ℕ) → (i ≡ mover → ⊥) → stands_at called lowest o (c ∷ cs) i ≡ stands_at called lowest o cs i)
  unfolding bytes_after events tells placed
  one-moves = go (reason o.n (table_slots o) (shelf_entries o) (past called o cs) c) refl (call_lives v c ws.0)
    where
      go : (x : Option ℕ) → reason o.n (table_slots o) (shelf_entries o) (past called o cs) c ≡ x → Lived v c ws.0 (called (bytes_after called o cs) c)
          → (mover : ℕ) × ((i : ℕ) → (i ≡ mover → ⊥) → stands_at called lowest o (c ∷ cs) i ≡ stands_at called lowest o cs i)
      go none e w =
          let s = w.stepped e in
          (s.mover, λ i d. sitting_is s.keeps (places_after called lowest o (c ∷ cs)).positions s.sits i ∙ s.others i d ∙ sym (stands i))
      go (some k) e w =
          let a : (called (bytes_after called o cs) c).answer ≡ refused_as c k =
          subst (λ (x : Option ℕ). Answers (table_slots o) (shelf_entries o) (past called o cs) x c (called (bytes_after called o cs) c).answer (called (bytes_after called o cs) c).out) e w.answers in
          (0, λ i d. still a i)
        where
          h : History
          h = past called o cs

          p : Places
          p = places_after called lowest o cs

          still : (called (bytes_after called o cs) c).answer ≡ refused_as c k → (i : ℕ) → stands_at called lowest o (c ∷ cs) i ≡ stands_at called lowest o cs i
          still a i =
              let f : heard h c (called (bytes_after called o cs) c).answer (called (bytes_after called o cs) c).out ≡ h = ap (λ (x : Answer). heard h c x (called (bytes_after called o cs) c).out) a ∙ refused-heard h c k (called (bytes_after called o cs) c).out in
              let g : moves lowest_of h h p c (refused_as c k) ≡ p =
              refused-moves h p c k (shelf-awaited v.keeps) (all-run v.keeps p.positions v.sits) in
              (λ j. sitting (f j) (moves lowest_of h (f j) p c (a j)) i) ∙ ap (λ (y : Places). sitting h y i) g

  -- past its table walk a scan awaits nothing in the table
  past-walk : (j : ℕ) (x : Version) → in_slot called o lowest cs j ≡ some x → (i : ℕ) → i < 64 → walking called o lowest cs i ≡ false → waits called o lowest cs i x ≡ false
  unfolding MasksMove
  past-walk j x e i hi w =
      ap (λ (s : Option Scan). waits_for s x) (stands i)
      ∙ beyond v.keeps j x e i hi (means.local i hi ∙ ap (λ (b : Bool). one_if (not b)) w)
    where
      means : MasksMean called o lowest cs
      means = masks_move o acc cs ws.1

  kept_or_calm : ((i : ℕ) → stands_at called lowest o (c ∷ cs) i ≡ stands_at called lowest o cs i) ⊎ Kept (past called o (c ∷ cs)) (past called o cs)
  unfolding events tells placed
  kept_or_calm = calm_or_kept (past called o cs) _ (places_after called lowest o cs) c _ _

  -- what is in the table before and on the shelf after has left with this call
  leaves_calmly : (j k : ℕ) (x : Version) → in_slot called o lowest cs j ≡ some x → in_entry called o lowest (c ∷ cs) k ≡ some x → (i : ℕ) → stands_at called lowest o (c ∷ cs) i ≡ stands_at called lowest o cs i
  leaves_calmly j k x e f = go kept_or_calm
    where
      go : ((i : ℕ) → stands_at called lowest o (c ∷ cs) i ≡ stands_at called lowest o cs i) ⊎ Kept (past called o (c ∷ cs)) (past called o cs) → (i : ℕ) → stands_at called lowest o (c ∷ cs) i ≡ stands_at called lowest o cs i
      go (inl y) = y
      go (inr y) =
          let m = at_live v.keeps j x e in
          let n = (at_needed u.keeps k x f).0 in
          absurd (apart_across change_of (past called o cs).live (past called o cs).left v.keeps.past.names x x m (rw y.0 at n) refl)

  -- a version that the call has made no scan awaits
  made_calmly : (j : ℕ) (x : Version) → in_slot called o lowest (c ∷ cs) j ≡ some x → x.change ≡ (past called o cs).changes
      → ((i : ℕ) → stands_at called lowest o (c ∷ cs) i ≡ stands_at called lowest o cs i) × ((i : ℕ) → i < 64 → waits called o lowest (c ∷ cs) i x ≡ false)
  made_calmly j x e new = go kept_or_calm
    where
      unawaited : (i : ℕ) (s : Option Scan) → get_or v.seats i none ≡ s → waits_for s x ≡ false
      unawaited i none z = refl
      unawaited i (some s) z = unmade (past called o cs) v.keeps.past s (runs_at v.keeps i s z) x (omega (arith, new))

      go : ((i : ℕ) → stands_at called lowest o (c ∷ cs) i ≡ stands_at called lowest o cs i) ⊎ Kept (past called o (c ∷ cs)) (past called o cs)
          → ((i : ℕ) → stands_at called lowest o (c ∷ cs) i ≡ stands_at called lowest o cs i) × ((i : ℕ) → i < 64 → waits called o lowest (c ∷ cs) i x ≡ false)
      go (inl y) = (y, λ i hi. ap (λ (s : Option Scan). waits_for s x) (y i ∙ stands i) ∙ unawaited i (get_or v.seats i none) refl)
      go (inr y) =
          let m : x.change < (past called o (c ∷ cs)).changes = u.keeps.past.old x (in_left x _ _ (at_live u.keeps j x e)) in
          absurd (omega (arith, y.1))

  pub call-moves : Moved called lowest o cs c
  unfolding MasksMove
  call-moves =
      let b = masks_move o acc cs ws.1 in
      let a = masks_move o acc (c ∷ cs) ws in
      let zb = v.keeps.fine.sized in
      let za = u.keeps.fine.sized in
      let m = one-moves in
      record {
        remset_mask_ins = λ j k x e f. shelved_with called lowest o cs c b a zb za (leaves_calmly j k x e f) j k x e f (past-walk j x e);
        remset_mask_upd = λ i k x hi e f was now. remset-moves called lowest o cs c b a zb za m.0 m.1 i hi x was now k e f;
        lcl_active_mask_upd = λ i hi was ends. local-moves called lowest o cs c b a zb za m.0 m.1 i hi was ends;
        stable_flip = λ i hi was ends. stable-moves called lowest o cs c b a zb za m.0 m.1 i hi was ends;
        active_mask_upd = λ i hi was ends. active-moves called lowest o cs c b a zb za m.0 m.1 i hi was ends;
        status_mask_upd = λ j x e new. let y = made_calmly j x e new in made_with called lowest o cs c b a zb za y.0 j x e y.1;
        status_mask_scan_upd = λ i j x hi e f was now. status-moves called lowest o cs c b a zb za m.0 m.1 i hi x was now j e f (walks_still i hi j x e was);
      }
    where
      walks_still : (i : ℕ) → i < 64 → (j : ℕ) (x : Version) → in_slot called o lowest cs j ≡ some x → waits called o lowest cs i x ≡ true → walking called o lowest cs i ≡ true
      walks_still i hi j x e was = go (walking called o lowest cs i) refl
        where
          go : (y : Bool) → walking called o lowest cs i ≡ y → walking called o lowest cs i ≡ true
          go true z = z
          go false z = absurd (false≢true (sym (past-walk j x e i hi z) ∙ was))

pub table-one : TableOne called lowest
unfolding MasksMove
table-one = record { reads = λ o acc cs ws. read_by called lowest o cs (masks_move o acc cs ws); moves = λ o acc cs c ws. call-moves o acc cs c ws }
