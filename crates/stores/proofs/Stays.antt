-- Every call that is not refused leaves a store fine, with as many slots and entries as before.
use mathlib.Core.Path.{◌≡◌, refl, sym, ◌∙◌}
use mathlib.Core.Bool.{Bool, true, false, not, ◌||◌, false≢true}
use mathlib.Core.Option.{Option, none, some}
use mathlib.Core.List.{List}
use Prim.Native.Nat.{ℕ, ◌-◌, ◌≤◌, ◌<◌}
use native.Mathlib.Omega.{arith}
use lib.Dec.{ltb, eqb}
use lib.ListN.{length-set, length-replicate}
use borrow.Author.Tests.{ltb-true, eqb-true, eqb-false, not-false}
use Rattle.rules.specs.Passed.{Well}
use Rattle.rules.specs.Calls.{bearing, free_position, card_of, position_of, opened, inserted, unawaited, changed_by, given}
use Rattle.rules.specs.Memory.{free, Store, T, R}
use Rattle.rules.specs.Next.{in_table, on_shelf, table_look, shelf_look, look_at, look, finish, walk}
use Rattle.rules.specs.Refusals.{Call, Change, own_right, no_scan, own_refusals, effect}
use Rattle.rules.proofs.First.{first_found}
use Rattle.stores.proofs.FirstOf.{Untrue}
use Rattle.stores.proofs.ChangesFine.{inserted_fine, changed_fine, given_fine, opened_fine}
use Rattle.stores.proofs.LooksFine.{BusyAt, look_fine, finish_fine, ticket_busy, look_busy}
use Rattle.stores.proofs.OnePosition.{Fine}
use Rattle.rules.proofs.Walk.{walk_ind}

-- ---- the scan of a ticket

pub or-false : (a b : Bool) → a || b ≡ false → (a ≡ false) × (b ≡ false)
or-false true b e = absurd (false≢true (sym e))
or-false false b e = (refl, e)

pub some_number : (k : ℕ) → eqb k 0 ≡ false → 1 ≤ k
some_number k e = go k (eqb-false k 0 e)
  where
    go : (k : ℕ) → (k ≡ 0 → ⊥) → 1 ≤ k
    go k d = omega arith

module _ (S : Store) (t : ℕ) (h : no_scan S t ≡ false) where
  pub at_position : position_of S t < 64
  at_position = ltb-true _ _ (not-false _ (or-false (eqb t 0) (not (ltb (position_of S t) 64)) h).1)

  pub ticket-some : 1 ≤ t
  ticket-some = some_number t (or-false (eqb t 0) (not (ltb (position_of S t) 64)) h).0

  pub ticket-there : (card_of S (position_of S t)).ticket.0 ≡ t
  ticket-there = eqb-true _ _ (first_found (λ i. eqb (card_of S i).ticket.0 t) 0 64 at_position)

-- ---- fine

pub ticket-left : (S : Store) → Fine S → eqb S.desk.last 4294967295 ≡ false → S.desk.last < 4294967295
ticket-left S f e = go S.desk.last f.sized.desk.last (eqb-false _ _ e)
  where
    go : (x : ℕ) → x < 4294967296 → (x ≡ 4294967295 → ⊥) → x < 4294967295
    go x h d = omega arith

walk_fine : (S : Store) → Fine S → (p : ℕ) → p < 64 → BusyAt S p → (b : ℕ) (o : List ℕ) → Fine (walk S p b 0 o).after
walk_fine S f p hp busy b o =
    walk_ind p o (λ X l c. Fine X × BusyAt X p) (λ r. Fine r.after)
    (λ X l c h e. finish_fine X h.0 p hp h.1 e) (λ X l h e. h.0)
    (λ X l c h e q. (look_fine X h.0 p hp h.1 e, look_busy X h.0 p hp h.1 e)) (λ X l c v h e q. look_fine X h.0 p hp h.1 e) b S 0 (f, busy)

pub effect_fine : (S : Store) → Fine S → (c : Call) → Well c → own_right c ≡ true → Untrue (own_refusals S c) → Fine (effect S c).after
unfolding effect own_refusals own_right
effect_fine S f (Call.opening n) w own u = opened_fine n (T S) (R S) (not-false _ u.0) f.slots f.small
effect_fine S f (Call.change (Change.insert k b)) w own u = inserted_fine S f k b w.0 (eqb-true _ _ own) w.1
effect_fine S f (Call.change (Change.modify k b)) w own u = changed_fine (unawaited S (bearing S.table k)) S f (bearing S.table k) (some b) (eqb-true _ _ own, w.1)
effect_fine S f (Call.change (Change.delete k)) w own u = changed_fine (unawaited S (bearing S.table k)) S f (bearing S.table k) none tt
effect_fine S f Call.begin w own u = given_fine S f (free_position S) (ltb-true _ _ (not-false _ u.0)) (ticket-left S f u.1.0)
effect_fine S f (Call.next t b o) w own u =
    let p : position_of S t < 64 = at_position S t u.0 in
    walk_fine S f (position_of S t) p (ticket_busy S f (position_of S t) p (omega (arith, ticket-there S t u.0, ticket-some S t u.0))) b o
effect_fine S f (Call.reading q) w own u = f

-- ---- as many slots and entries

pub record Kept (S X : Store) : Type 0 where
  pub slots : T X ≡ T S
  pub entries : R X ≡ R S

kept_not : (S : Store) → Kept S S
kept_not S = record { slots = refl; entries = refl }

pub table_kept : (x : Bool) (S : Store) (p i : ℕ) → Kept S (table_look x S p i).0
unfolding table_look
table_kept true S p i = record { slots = length-set S.table i _; entries = refl }
table_kept false S p i = record { slots = refl; entries = refl }

pub shelf_kept : (x : Bool) (S : Store) (p k : ℕ) → Kept S (shelf_look x S p k).0
unfolding shelf_look
shelf_kept true S p k = record { slots = refl; entries = length-set S.shelf k _ }
shelf_kept false S p k = record { slots = refl; entries = refl }

pub look_kept : (S : Store) (p : ℕ) → Kept S (look S p).0
unfolding look_at
look_kept S p = go (ltb (card_of S p).place (T S))
  where
    go : (x : Bool) → Kept S (look_at x S p (card_of S p).place).0
    go true = table_kept (in_table S p (card_of S p).place) S p (card_of S p).place
    go false = shelf_kept (on_shelf S p ((card_of S p).place - T S)) S p ((card_of S p).place - T S)

pub finish_kept : (S : Store) (p : ℕ) → Kept S (finish S p)
unfolding finish
finish_kept S p = record { slots = refl; entries = refl }

kept_both : (S X Y : Store) → Kept S X → Kept X Y → Kept S Y
kept_both S X Y a b = record { slots = b.slots ∙ a.slots; entries = b.entries ∙ a.entries }

walk_kept : (S : Store) (p b : ℕ) (o : List ℕ) → Kept S (walk S p b 0 o).after
walk_kept S p b o =
    walk_ind p o (λ X l c. Kept S X) (λ r. Kept S r.after) (λ X l c h e. kept_both S X (finish X p) h (finish_kept X p)) (λ X l h e. h)
    (λ X l c h e q. kept_both S X (look X p).0 h (look_kept X p)) (λ X l c v h e q. kept_both S X (look X p).0 h (look_kept X p)) b S 0 (kept_not S)

pub changed_kept : (x : Bool) (S : Store) (i : ℕ) (b : Option (List ℕ)) → Kept S (changed_by x S i b)
unfolding changed_by
changed_kept true S i b = record { slots = length-set S.table i _; entries = refl }
changed_kept false S i b = record { slots = length-set S.table i _; entries = length-set S.shelf _ _ }

inserted_kept : (S : Store) (k : ℕ) (b : List ℕ) → Kept S (inserted S k b)
unfolding inserted
inserted_kept S k b = record { slots = length-set S.table _ _; entries = refl }

given_kept : (S : Store) (p : ℕ) → Kept S (given S p)
unfolding given
given_kept S p = record { slots = refl; entries = refl }

opened_kept : (S : Store) (n : ℕ) → Kept S (opened n (T S) (R S))
unfolding opened
opened_kept S n = record { slots = length-replicate (T S) free; entries = length-replicate (R S) free }

pub effect_kept : (S : Store) (c : Call) → Kept S (effect S c).after
unfolding effect
effect_kept S (Call.opening n) = opened_kept S n
effect_kept S (Call.change (Change.insert k b)) = inserted_kept S k b
effect_kept S (Call.change (Change.modify k b)) = changed_kept (unawaited S (bearing S.table k)) S (bearing S.table k) (some b)
effect_kept S (Call.change (Change.delete k)) = changed_kept (unawaited S (bearing S.table k)) S (bearing S.table k) none
effect_kept S Call.begin = given_kept S (free_position S)
effect_kept S (Call.next t b o) = walk_kept S (position_of S t) b o
effect_kept S (Call.reading q) = kept_not S
