-- A stable bit turns exactly where a table walk ends.
use mathlib.Core.Path.{◌≡◌, refl, sym, ap, ◌∙◌, subst}
use mathlib.Core.Bool.{Bool, true, false, not, ◌&&◌, false≢true, and-not_self}
use mathlib.Core.Option.{none, some}
use mathlib.Core.List.{List}
use Prim.Native.Nat.{ℕ, suc, ◌+◌, ◌-◌, ◌%◌, ◌<◌}
use native.Mathlib.Omega.{arith}
use native.Mathlib.Decide.{ℕ_discrete}
use lib.Bits.{bit_or}
use lib.Dec.{eqb, ltb}
use borrow.Author.Tests.{ltb-true, eqb-true, not-false}
use Rattle.demands.specs.Machine.{Within}
use Rattle.demands.specs.Masks.{one_if}
use Rattle.rules.specs.Calls.{bearing, free_position, card_of, position_of, inserted, unawaited, given}
use Rattle.rules.specs.Masks.{bit, off, scan_mask, Masks, walk_begun, walk_ended, ended, STABLE_FLIP, LCL_ACTIVE_MASK_UPD}
use Rattle.rules.specs.Memory.{Desk, Store, T}
use Rattle.rules.specs.Next.{turned, in_table, on_shelf, table_look, shelf_look, look_at, look, finish, walk}
use Rattle.rules.specs.Refusals.{Call, Change, own_refusals, effect}
use Rattle.rules.proofs.Bits.{bit_low}
use Rattle.rules.proofs.TableOne.{flip_own, flip_other, set_own, set_other, clear_own, clear_other}
use Rattle.stores.proofs.FirstOf.{Untrue}
use Rattle.demands.proofs.invariant.ChangesKeep.{desk-same}
use Rattle.stores.proofs.LooksFine.{BusyAt, look_fine, ticket_busy, look_busy}
use Rattle.stores.proofs.OnePosition.{Fine, n_most}
use Rattle.stores.proofs.Stays.{at_position, ticket-some, ticket-there}
use Rattle.rules.proofs.Walk.{walk_ind}

-- masks before and after: the stable bit turns where the local active bit rises
abbrev pub Turns : Masks → Masks → Type 0
Turns m k = (i : ℕ) → i < 64 → bit k.stable i ≡ (bit m.stable i + one_if (off m.local i && not (off k.local i))) % 2

pub still : (m : Masks) → Turns m m
still m i h = rw (and-not_self (off m.local i)) (omega (arith, bit_low m.stable i))

same_turns : (m k : Masks) → k ≡ m → Turns m k
same_turns m k e = subst (Turns m) (sym e) (still m)

begun_turns : (m : Masks) (p : ℕ) → p < 64 → Turns m (walk_begun m p)
unfolding walk_begun
begun_turns m p hp i h = go (ℕ_discrete i p)
  where
    none-ends : (a : Bool) → one_if (a && false) ≡ 0
    none-ends true = refl
    none-ends false = refl

    go : Dec (i ≡ p) → bit (walk_begun m p).stable i ≡ (bit m.stable i + one_if (off m.local i && not (off (walk_begun m p).local i))) % 2
    go (yes z) = rw (z, clear_own m.local p hp) (omega (arith, bit_low m.stable p, none-ends (off m.local p)))
    go (no z) = rw (clear_other m.local p hp i h z) (still m i h)

ended_turns : (m : Masks) (p : ℕ) → Turns m (ended m p)
unfolding ended
ended_turns m p i h = still m i h

-- ---- the looks of a call: a walk that has ended does not begin again

pub record Walked (m k : Masks) : Type 0 where
  pub turns : Turns m k
  pub rises : (i : ℕ) → i < 64 → bit k.local i ≡ 0 → bit m.local i ≡ 0

walked-not : (m : Masks) → Walked m m
walked-not m = record { turns = still m; rises = λ i h e. e }

walked-turned : (m k : Masks) (p : ℕ) → bit k.local p ≡ 0 → Walked m k → (y : Bool) → Walked m (turned y k p)
unfolding walk_ended STABLE_FLIP LCL_ACTIVE_MASK_UPD
walked-turned m k p l w false = w
walked-turned m k p l w true = record { turns = λ i h. go i h (ℕ_discrete i p); rises = λ i h e. rise i h e (ℕ_discrete i p) }
  where
    rise : (i : ℕ) → i < 64 → bit (turned true k p).local i ≡ 0 → Dec (i ≡ p) → bit m.local i ≡ 0
    rise i h e (yes z) = absurd (omega (arith, set_own k.local p, subst (λ (x : ℕ). bit (bit_or k.local (scan_mask p)) x ≡ 0) z e))
    rise i h e (no z) = w.rises i h (sym (set_other k.local p i z) ∙ e)

    go : (i : ℕ) → i < 64 → Dec (i ≡ p) → bit (turned true k p).stable i ≡ (bit m.stable i + one_if (off m.local i && not (off (turned true k p).local i))) % 2
    go i h (yes z) =
        let a : bit m.local i ≡ 0 = w.rises i h (ap (λ (x : ℕ). bit k.local x) z ∙ l) in
        let b : bit k.local i ≡ 0 = ap (λ (x : ℕ). bit k.local x) z ∙ l in
        let c : bit k.stable i ≡ (bit m.stable i + 0) % 2 = w.turns i h ∙ rw (a, b) refl in
        rw (a, z, set_own k.local p, flip_own k.stable p) (omega (arith, bit_low m.stable p, bit_low k.stable p, subst (λ (x : ℕ). bit k.stable x ≡ (bit m.stable x + 0) % 2) z c))
    go i h (no z) = rw (set_other k.local p i z, flip_other k.stable p i z) (w.turns i h)

module _ (m : Masks) (p : ℕ) (hp : p < 64) where
  look-walked : (X : Store) → Fine X → BusyAt X p → Walked m X.desk.masks → Walked m (look X p).0.desk.masks
  unfolding look_at table_look shelf_look
  look-walked X f b w = go (ltb (card_of X p).place (T X)) refl
    where
      table : (x : Bool) → ltb (card_of X p).place (T X) ≡ true → Walked m (table_look x X p (card_of X p).place).0.desk.masks
      table true e = walked-turned m X.desk.masks p (eqb-true _ _ (sym b.local ∙ e)) w (eqb (suc (card_of X p).place) (T X))
      table false e = walked-turned m X.desk.masks p (eqb-true _ _ (sym b.local ∙ e)) w (eqb (suc (card_of X p).place) (T X))

      shelf : (k : ℕ) (x : Bool) → Walked m (shelf_look x X p k).0.desk.masks
      shelf k true = w
      shelf k false = w

      go : (x : Bool) → ltb (card_of X p).place (T X) ≡ x → Walked m (look_at x X p (card_of X p).place).0.desk.masks
      go true e = table (in_table X p (card_of X p).place) e
      go false e = shelf ((card_of X p).place - T X) (on_shelf X p ((card_of X p).place - T X))

  finish-walked : (X : Store) → Walked m X.desk.masks → Walked m (finish X p).desk.masks
  unfolding finish ended
  finish-walked X w = record { turns = w.turns; rises = w.rises }

  walk-walked : (S : Store) → S.desk.masks ≡ m → Fine S → BusyAt S p → (b : ℕ) (o : List ℕ) → Walked m (walk S p b 0 o).after.desk.masks
  walk-walked S e f busy b o =
      walk_ind p o (λ X l c. Fine X × BusyAt X p × Walked m X.desk.masks) (λ r. Walked m r.after.desk.masks) (λ X l c h d. finish-walked X h.2) (λ X l h d. h.2)
      (λ X l c h d z. (look_fine X h.0 p hp h.1 d, look_busy X h.0 p hp h.1 d, look-walked X h.0 h.1 h.2)) (λ X l c v h d z. look-walked X h.0 h.1 h.2) b S 0
      (f, busy, subst (Walked m) (sym e) (walked-not m))

-- ---- every call

inserted-desk : (S : Store) (k : ℕ) (b : List ℕ) → (inserted S k b).desk ≡ S.desk
unfolding inserted
inserted-desk S k b = refl

given-masks : (S : Store) (p : ℕ) → (given S p).desk.masks ≡ walk_begun S.desk.masks p
unfolding given
given-masks S p = refl

pub effect_turns : (S : Store) → Fine S → (c : Call) → Within c → Untrue (own_refusals S c) → Turns S.desk.masks (effect S c).after.desk.masks
unfolding effect own_refusals
effect_turns S f (Call.opening n) w u = absurd (false≢true (sym w.1 ∙ not-false _ u.0))
effect_turns S f (Call.change (Change.insert k b)) w u = same_turns S.desk.masks (inserted S k b).desk.masks (ap (λ (d : Desk). d.masks) (inserted-desk S k b))
effect_turns S f (Call.change (Change.modify k b)) w u = same_turns S.desk.masks _ (ap (λ (d : Desk). d.masks) (desk-same (unawaited S (bearing S.table k)) S (bearing S.table k) (some b)))
effect_turns S f (Call.change (Change.delete k)) w u = same_turns S.desk.masks _ (ap (λ (d : Desk). d.masks) (desk-same (unawaited S (bearing S.table k)) S (bearing S.table k) none))
effect_turns S f Call.begin w u =
    let p : free_position S < S.desk.n = ltb-true _ _ (not-false _ u.0) in
    subst (Turns S.desk.masks) (sym (given-masks S (free_position S))) (begun_turns S.desk.masks (free_position S) (omega (arith, n_most S f)))
effect_turns S f (Call.next t b o) w u =
    let p : position_of S t < 64 = at_position S t u.0 in
    (walk-walked S.desk.masks (position_of S t) p S refl f (ticket_busy S f (position_of S t) p (omega (arith, ticket-there S t u.0, ticket-some S t u.0))) b o).turns
effect_turns S f (Call.reading q) w u = still S.desk.masks
