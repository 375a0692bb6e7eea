-- A scan moves and no version does: what that keeps.
use mathlib.Core.Path.{◌≡◌, refl, sym, ap, ◌∙◌, subst}
use mathlib.Core.Bool.{Bool, false, not, ◌&&◌}
use mathlib.Core.Option.{Option, none}
use mathlib.Core.List.{List}
use Prim.Native.Nat.{ℕ, ◌+◌, ◌<◌}
use lib.Bits.{bit_xor}
use lib.Dec.{eqb}
use lib.ListN.{length, get_or}
use Rattle.demands.specs.History.{Version, Scan, History, needed}
use Rattle.demands.specs.Lists.{standing, Permutation}
use Rattle.demands.specs.Masks.{one_if, waits_for}
use Rattle.rules.specs.Calls.{slot_in}
use Rattle.rules.specs.Masks.{bit, off}
use Rattle.rules.specs.Memory.{idle, Desk, store}
use Rattle.rules.proofs.Bits.{bit-xor}
use Rattle.demands.proofs.history.Past.{Past}
use Rattle.demands.proofs.invariant.Invariant.{SeatOK, Inv}
use Rattle.demands.proofs.invariant.Marks.{is_still, marked_map}
use Rattle.demands.proofs.invariant.Moment.{Moment, scans_move, looks_o, end, table_of, shelf_of}
use Rattle.demands.proofs.lists.Places.{At}
use Rattle.stores.proofs.OnePosition.{Fine}

-- XOR with a mask that has moved at one position
pub xor_else : (x y s u i : ℕ) → bit x i ≡ bit y i → bit s i ≡ bit u i → bit (bit_xor x s) i ≡ bit (bit_xor y u) i
xor_else x y s u i e f = bit-xor x s i ∙ rw (e, f) (sym (bit-xor y u i))

module _ (now : Moment) (p : ℕ) (d : Desk) (h : History) (sc : List (Option Scan)) where
  -- desk, history and seats after the scan at p has moved
  abbrev moved : Moment
  moved = scans_move now (store d now.store.table now.store.shelf) h sc

  pub record ScanMoves : Type 0 where
    pub fine : Fine moved.store
    pub past : Past h
    pub is_n : d.n ≡ now.n
    pub last : d.last ≡ h.given
    pub live : h.live ≡ now.history.live
    pub needs : needed now.history ≡ needed h
    pub seats : length sc ≡ now.n
    pub seated : Permutation (standing sc) h.running
    pub cards : (i : ℕ) → i < 64 → SeatOK (get_or d.cards i idle) (get_or sc i none)
    -- at the other positions
    pub others : (i : ℕ) → (i ≡ p → ⊥) → get_or sc i none ≡ get_or now.seats i none
    pub stable : (i : ℕ) → i < 64 → (i ≡ p → ⊥) → bit d.masks.stable i ≡ bit now.store.desk.masks.stable i
    pub local : (i : ℕ) → i < 64 → (i ≡ p → ⊥) → bit d.masks.local i ≡ bit now.store.desk.masks.local i
    -- at its own
    pub slot : (j : ℕ) (v : Version) → At now.table j v
        → bit (bit_xor d.masks.stable (slot_in now.store.table j).mask) p ≡ one_if (off d.masks.local p && not (waits_for (get_or sc p none) v))
    pub slot_past : (j : ℕ) (v : Version) → At now.table j v → j < looks_o (end now) (get_or sc p none) → waits_for (get_or sc p none) v ≡ false
    pub entry : (k : ℕ) (v : Version) → At now.shelf k v → waits_for (get_or now.seats p none) v ≡ waits_for (get_or sc p none) v
    pub entry_past : (k : ℕ) (v : Version) → At now.shelf k v → now.t + k < looks_o (end now) (get_or sc p none) → waits_for (get_or sc p none) v ≡ false

  pub scan-moves : Inv now → ScanMoves → Inv moved
  scan-moves q c =
      record {
        fine = c.fine;
        past = c.past;
        is_n = c.is_n;
        is_t = q.is_t;
        is_r = q.is_r;
        last = c.last;
        slots = q.slots;
        entries = q.entries;
        seats = c.seats;
        seated = c.seated;
        cards = c.cards;
        table_marks = marked_map now moved (table_of now) (table_of moved) now.store.table now.table
            (λ j v e w. is_still now moved p c.others refl (table_of now) (table_of moved) (λ j. refl) (λ i hi x. ap (λ (y : ℕ). eqb y 0) (c.local i hi x))
            j (slot_in now.store.table j) (slot_in now.store.table j) v refl refl (λ i hi x. xor_else _ _ _ _ i (c.stable i hi x) refl) (λ _. c.slot j v e) (λ _. c.slot_past j v e) w)
            q.table_marks;
        shelf_marks = marked_map now moved (shelf_of now) (shelf_of moved) now.store.shelf now.shelf
            (λ k v e w. is_still now moved p c.others refl (shelf_of now) (shelf_of moved) (λ j. refl) (λ i hi x. refl)
            k (slot_in now.store.shelf k) (slot_in now.store.shelf k) v refl refl (λ i hi x. refl) (λ hp. w.bits p hp ∙ ap (λ (b : Bool). one_if (not b)) (c.entry k v e)) (λ _. c.entry_past k v e) w)
            q.shelf_marks;
        tabled = rw c.live q.tabled;
        shelved = subst (λ (l : List Version). Permutation (standing now.shelf) l) c.needs q.shelved;
      }
