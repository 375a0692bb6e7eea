-- What next hands out stands in the table or on the shelf.
use mathlib.Core.Path.{subst}
use mathlib.Core.Bool.{Bool, true, false}
use mathlib.Core.Option.{Option, none, some}
use mathlib.Core.List.{List}
use Prim.Native.Nat.{ℕ, ◌-◌}
use lib.Dec.{ltb}
use Rattle.rules.specs.Calls.{slot_in, card_of, position_of}
use Rattle.rules.specs.Memory.{Lent, Slot, Store, T, read, version}
use Rattle.rules.specs.Next.{in_table, table_look, on_shelf, shelf_look, look_at, look, walk}
use Rattle.rules.specs.Refusals.{Call, first_of, refusals, effect, out_of, replied, called}
use Rattle.rules.proofs.Walk.{walk_ind}

module _ (P : List ℕ → Type 0) where
  -- P of everything that stands there
  pub record Everywhere (S : Store) : Type 0 where
    pub table : (i : ℕ) → P (version (slot_in S.table i))
    pub shelf : (i : ℕ) → P (version (slot_in S.shelf i))

  -- of a look: of what it finds, or of the store that it leaves
  abbrev Looked : Option Slot → Store → Type 0
  Looked none X = Everywhere X
  Looked (some v) X = P (version v)

  looked : (S : Store) (p : ℕ) → Everywhere S → Looked (look S p).1 (look S p).0
  unfolding look_at table_look shelf_look
  looked S p h = go (ltb (card_of S p).place (T S))
    where
      table : (b : Bool) (i : ℕ) → Looked (table_look b S p i).1 (table_look b S p i).0
      table true i = h.table i
      table false i = record { table = h.table; shelf = h.shelf }

      shelf : (b : Bool) (k : ℕ) → Looked (shelf_look b S p k).1 (shelf_look b S p k).0
      shelf true k = h.shelf k
      shelf false k = record { table = h.table; shelf = h.shelf }

      go : (b : Bool) → Looked (look_at b S p (card_of S p).place).1 (look_at b S p (card_of S p).place).0
      go true = table (in_table S p (card_of S p).place) (card_of S p).place
      go false = shelf (on_shelf S p ((card_of S p).place - T S)) ((card_of S p).place - T S)

  walked : (S : Store) (p b : ℕ) (o : List ℕ) → Everywhere S → P o → P (walk S p b 0 o).out
  walked S p b o h q =
      walk_ind p o (λ X l c. Everywhere X) (λ r. P r.out) (λ X l c k e. q) (λ X l k e. q) (λ X l c k e f. subst (λ (x : Option Slot). Looked x (look X p).0) f (looked X p k))
      (λ X l c v k e f. subst (λ (x : Option Slot). Looked x (look X p).0) f (looked X p k)) b S 0 h

  -- an unused buffer, or what stands there
  pub out-stands : (l : Lent) (t b : ℕ) (o : List ℕ) → Everywhere (read l) → P o → P (called l (Call.next t b o)).out
  unfolding called replied effect out_of
  out-stands l t b o h q = go (first_of (refusals l (Call.next t b o)))
    where
      go : (r : Option ℕ) → P (replied r l (Call.next t b o)).out
      go none = walked (read l) (position_of (read l) t) b o h q
      go (some k) = q
