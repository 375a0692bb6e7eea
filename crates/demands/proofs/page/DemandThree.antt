-- The calls of document 01, on lent bytes, meet demand 3.
use mathlib.Core.Path.{sym, ◌∙◌}
use mathlib.Core.Option.{Option, none, some}
use Prim.Native.Nat.{ℕ}
use lib.ListN.{get_or}
use Rattle.demands.specs.DemandThree.{Reads, Holds, Demand3}
use Rattle.demands.specs.History.{Version, History, needed}
use Rattle.demands.specs.Placement.{Places}
use Rattle.rules.specs.Calls.{slot_in}
use Rattle.rules.specs.Memory.{Lent, store_of}
use Rattle.rules.specs.Refusals.{called}
use Rattle.demands.proofs.page.Lives.{Living, all_live}
use Rattle.demands.proofs.invariant.Invariant.{Inv}
use Rattle.demands.proofs.invariant.Marks.{OK, Marked}
use Rattle.demands.proofs.invariant.Moment.{Moment, Row, table_of, shelf_of}

module _ {now : Moment} (q : Inv now) where
  row_reads : (w : Row) → Marked now w → (j : ℕ) → Reads (slot_in w.slots j) (get_or w.versions j none)
  row_reads w h j = go (get_or w.versions j none) (h j)
    where
      go : (o : Option Version) → OK now w j (slot_in w.slots j) o → Reads (slot_in w.slots j) o
      go none e = e
      go (some x) e = (e.number, e.body)

  pub slot-reads : (j : ℕ) → Reads (slot_in now.store.table j) (get_or now.table j none)
  slot-reads = row_reads (table_of now) q.table_marks

  pub entry-reads : (k : ℕ) → Reads (slot_in now.store.shelf k) (get_or now.shelf k none)
  entry-reads = row_reads (shelf_of now) q.shelf_marks

module _ {n t r : ℕ} {l : Lent} {h : History} {p : Places} (v : Living n t r l h p) where
  shelf-holds : Holds l.shelf (needed h)
  unfolding store_of
  shelf-holds = record { which = p.shelf; all = v.keeps.entries ∙ sym v.keeps.is_r; each = v.keeps.shelved; spelt = entry-reads v.keeps }

  table-holds : Holds l.table h.live
  unfolding store_of
  table-holds = record { which = p.table; all = v.keeps.slots ∙ sym v.keeps.is_t; each = v.keeps.tabled; spelt = slot-reads v.keeps }

pub demand_3 : Demand3 called
demand_3 = record { shelf = λ o a cs ws. shelf-holds (all_live o cs ws); table = λ o a cs ws. table-holds (all_live o cs ws) }
