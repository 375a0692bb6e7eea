-- A call of next on our store and on the one that clears its bits at begin: the same answer and hand-out, and stores that are alike again.
use mathlib.Core.Path.{◌≡◌, refl, sym, ap, ◌∙◌, subst}
use mathlib.Core.Bool.{Bool, true, false, not, ◌&&◌}
use mathlib.Core.Option.{Option, none, some}
use mathlib.Core.List.{List, ◌++◌}
use Prim.Native.Nat.{ℕ, zero, suc, ◌+◌, ◌-◌, ◌%◌, ◌≤◌, ◌<◌}
use native.Mathlib.Omega.{arith}
use native.Mathlib.Decide.{ℕ_discrete}
use lib.Bits.{bit_xor}
use lib.Dec.{ltb, eqb}
use lib.ListN.{set, length-set}
use borrow.Author.Tests.{ltb-true, eqb-true}
use Rattle.wrong.specs.ClearAtBegin.{walk_over}
use Rattle.wrong.specs.Walk.{turned, table_look, shelf_look, look_at, look, finish, walk}
use Rattle.wrong.specs.Ways.{itself}
use Rattle.rules.specs.Answers.{Answer, Draw}
use Rattle.rules.specs.Bytes.{to_le}
use Rattle.rules.specs.Calls.{slot_in, in_use, card_of}
use Rattle.rules.specs.Masks.{bit, scan_mask, Masks, walk_ended, ended, STATUS_MASK_SCAN_UPD, STABLE_FLIP, LCL_ACTIVE_MASK_UPD}
use Rattle.rules.specs.Memory.{Slot, free, Store, store, T, R, version}
use Rattle.rules.specs.Next.{Told, told, desk_with, moved, in_table, flipped, on_shelf, at_end, turned as our_turned, table_look as our_table_look, shelf_look as our_shelf_look, finish as our_finish, look_at as our_look_at, look as our_look, walk as our_walk}
use Rattle.rules.proofs.Bits.{bit_low, bit-zero, bit-xor}
use Rattle.rules.proofs.TableOne.{flip_other, set_own, set_other}
use Rattle.wrong.proofs.Alike.{unturned, other, SlotAlike, Alike, Twin, in_use_some, slot_stays}
use Rattle.stores.proofs.LooksFine.{BusyAt, flipped_sized, look_fine, look_busy}
use Rattle.demands.proofs.invariant.Marks.{set_both}
use Rattle.stores.proofs.OnePosition.{Fine}
use Rattle.stores.proofs.Sizes.{SlotSized, set_all}
use Rattle.stores.proofs.Spelling.{both_true}

-- ---- masks

-- ours with the stable bit turned, the other without
turned_same : (y : Bool) (m : Masks) (p : ℕ) → turned itself walk_over y (unturned m) p ≡ unturned (our_turned y m p)
unfolding walk_over walk_ended
turned_same true m p = refl
turned_same false m p = refl

turned-alike : (y : Bool) (m : Masks) (p : ℕ) (s z : Slot) → SlotAlike m s z → SlotAlike (our_turned y m p) s z
unfolding walk_ended STABLE_FLIP LCL_ACTIVE_MASK_UPD
turned-alike false m p s z a = a
turned-alike true m p s z a = slot_stays m (walk_ended m p) (λ i h e. go i e (ℕ_discrete i p)) s z a
  where
    go : (i : ℕ) → bit (walk_ended m p).local i ≡ 0 → Dec (i ≡ p) → (bit m.local i ≡ 0) × (bit (walk_ended m p).stable i ≡ bit m.stable i)
    go i e (yes d) = absurd (omega (arith, set_own m.local p, subst (λ (x : ℕ). bit (walk_ended m p).local x ≡ 0) d e))
    go i e (no d) = (sym (set_other m.local p i d) ∙ e, flip_other m.stable p i d)

flipped-alike : (m : Masks) (p : ℕ) (s z : Slot) → 1 ≤ s.number → SlotAlike m s z → SlotAlike m (flipped s p) (flipped z p)
unfolding STATUS_MASK_SCAN_UPD
flipped-alike m p s z u a =
    record {
      number = a.number;
      body = a.body;
      empty = λ e. absurd (omega arith);
      bits = λ _ i h l.
          let x : bit z.mask i ≡ (bit m.stable i + bit s.mask i) % 2 = a.bits u i h l ∙ bit-xor m.stable s.mask i in
          bit-xor z.mask (scan_mask p) i ∙ ap (λ (y : ℕ). (y + bit (scan_mask p) i) % 2) x ∙ parity (bit m.stable i) (bit s.mask i) (bit (scan_mask p) i)
          ∙ ap (λ (y : ℕ). (bit m.stable i + y) % 2) (sym (bit-xor s.mask (scan_mask p) i)) ∙ sym (bit-xor m.stable (bit_xor s.mask (scan_mask p)) i);
    }
  where
    parity : (x y n : ℕ) → ((x + y) % 2 + n) % 2 ≡ (x + (y + n) % 2) % 2
    parity x y n = omega arith

-- ---- one look

-- what two looks find reads the same
abbrev Found : Option Slot → Option Slot → Type 0
Found none none = Unit
Found none (some z) = ⊥
Found (some s) none = ⊥
Found (some s) (some z) = version z ≡ version s

record Looked (x y : Store × Option Slot) : Type 0 where
  pub after : Twin x.0 y.0
  pub found : Found x.1 y.1

module _ (S : Store) (f : Fine S) (p : ℕ) (hp : p < 64) (b : BusyAt S p) (t : List Slot) (a : Alike S t) where
  -- in its table walk the scan is handed the same slots
  in_table_same : (i : ℕ) → bit S.desk.masks.local p ≡ 0 → in_table (other S t) p i ≡ in_table S p i
  in_table_same i l = go (in_use (slot_in S.table i)) refl
    where
      used : in_use (slot_in t i) ≡ in_use (slot_in S.table i)
      used = ap (λ (n : ℕ). not (eqb n 0)) (a.slots i).number

      go : (x : Bool) → in_use (slot_in S.table i) ≡ x → in_table (other S t) p i ≡ in_table S p i
      go true e =
          let z : bit (slot_in t i).mask p ≡ bit (bit_xor S.desk.masks.stable (slot_in S.table i).mask) p = (a.slots i).bits (in_use_some (slot_in S.table i) e) p hp l in
          let y : bit (bit_xor 0 (slot_in t i).mask) p ≡ bit (bit_xor S.desk.masks.stable (slot_in S.table i).mask) p = bit-xor 0 (slot_in t i).mask p ∙ omega (arith, bit-zero p, bit_low (slot_in t i).mask p) in
          λ j. used j && eqb (y j) 0
      go false e = rw (used, e) refl

  module _ (h : (card_of S p).place < T S) where
    abbrev i : ℕ
    i = (card_of S p).place

    abbrev turns : Masks
    turns = our_turned (eqb (suc i) (T S)) S.desk.masks p

    table-turned : turned itself walk_over (eqb (suc i) (T (other S t))) (unturned S.desk.masks) p ≡ unturned turns
    table-turned = ap (λ (n : ℕ). turned itself walk_over (eqb (suc i) n) (unturned S.desk.masks) p) a.all ∙ turned_same (eqb (suc i) (T S)) S.desk.masks p

    table-look : (x : Bool) → in_table S p i ≡ x → Looked (our_table_look x S p i) (table_look itself walk_over x (other S t) p i)
    unfolding our_table_look table_look
    table-look true e =
        record {
          after = record {
            table = set t i (flipped (slot_in t i) p);
            is = ap (λ (k : Masks). store (desk_with (other S t).desk k p (moved (card_of S p) true)) (set t i (flipped (slot_in t i) p)) S.shelf) table-turned;
            alike = record {
              all = length-set t i _ ∙ a.all ∙ sym (length-set S.table i _);
              slots = set_both (λ j s z. SlotAlike S.desk.masks s z) (λ j s z. SlotAlike turns s z) free free S.table t i h (rw a.all h) (flipped (slot_in S.table i) p) (flipped (slot_in t i) p)
                  (turned-alike (eqb (suc i) (T S)) S.desk.masks p _ _ (flipped-alike S.desk.masks p (slot_in S.table i) (slot_in t i) (in_use_some (slot_in S.table i) (both_true _ _ e).0) (a.slots i)))
                  (λ j d w. turned-alike (eqb (suc i) (T S)) S.desk.masks p _ _ w) a.slots;
              sized = set_all SlotSized free t i (flipped (slot_in t i) p) a.sized (flipped_sized S f p hp b (slot_in t i) (a.sized i));
            };
          };
          found = λ j. to_le 4 ((a.slots i).number j) ++ (a.slots i).body j;
        }
    table-look false e =
        record {
          after = record {
            table = t;
            is = ap (λ (k : Masks). store (desk_with (other S t).desk k p (moved (card_of S p) false)) t S.shelf) table-turned;
            alike = record { all = a.all; slots = λ j. turned-alike (eqb (suc i) (T S)) S.desk.masks p _ _ (a.slots j); sized = a.sized };
          };
          found = tt;
        }

  shelf-look : (x : Bool) (k : ℕ) → Looked (our_shelf_look x S p k) (shelf_look itself walk_over x (other S t) p k)
  unfolding our_shelf_look shelf_look
  shelf-look true k = record { after = record { table = t; is = refl; alike = record { all = a.all; slots = a.slots; sized = a.sized } }; found = refl }
  shelf-look false k = record { after = record { table = t; is = refl; alike = record { all = a.all; slots = a.slots; sized = a.sized } }; found = tt }

  look-alike : Looked (our_look S p) (look itself walk_over (other S t) p)
  unfolding our_look_at look_at
  look-alike = subst (λ (n : ℕ). Looked (our_look S p) (look_at itself walk_over (ltb (card_of S p).place n) (other S t) p (card_of S p).place)) (sym a.all) (go (ltb (card_of S p).place (T S)) refl)
    where
      go : (x : Bool) → ltb (card_of S p).place (T S) ≡ x → Looked (our_look_at x S p (card_of S p).place) (look_at itself walk_over x (other S t) p (card_of S p).place)
      go true e =
          let l : bit S.desk.masks.local p ≡ 0 = eqb-true _ _ (sym b.local ∙ e) in
          subst (λ (x : Bool). Looked (our_table_look (in_table S p (card_of S p).place) S p (card_of S p).place) (table_look itself walk_over x (other S t) p (card_of S p).place)) (sym (in_table_same (card_of S p).place l))
          (table-look (ltb-true _ _ e) (in_table S p (card_of S p).place) refl)
      go false e =
          subst (λ (n : ℕ). Looked (our_shelf_look (on_shelf S p ((card_of S p).place - T S)) S p ((card_of S p).place - T S)) (shelf_look itself walk_over (on_shelf S p ((card_of S p).place - n)) (other S t) p ((card_of S p).place - n))) (sym a.all)
          (shelf-look (on_shelf S p ((card_of S p).place - T S)) ((card_of S p).place - T S))

  finish-alike : Twin (our_finish S p) (finish itself walk_over (other S t) p)
  unfolding our_finish finish ended
  finish-alike = record { table = t; is = refl; alike = record { all = a.all; slots = λ i. slot_stays S.desk.masks (ended S.desk.masks p) (λ j h l. (l, refl)) _ _ (a.slots i); sized = a.sized } }

-- ---- the walk

at_end_same : (S : Store) (t : List Slot) → Alike S t → (p : ℕ) → at_end (other S t) p ≡ at_end S p
at_end_same S t a p = ap (λ (n : ℕ). eqb (card_of S p).place (n + R S)) a.all

pub record ToldAlike (x y : Told) : Type 0 where
  pub answer : y.answer ≡ x.answer
  pub out : y.out ≡ x.out
  pub after : Twin x.after y.after

module _ (p : ℕ) (hp : p < 64) (o : List ℕ) where
  abbrev pub WalksAlike : ℕ → Type 0
  WalksAlike b = (S : Store) (l : ℕ) → Fine S → BusyAt S p → (t : List Slot) → Alike S t → ToldAlike (our_walk S p b l o) (walk itself walk_over (other S t) p b l o)

  pub walk-alike : (b : ℕ) → WalksAlike b
  unfolding our_walk walk
  walk-alike zero S l f busy t a = go (at_end S p) refl
    where
      go : (e : Bool) → at_end S p ≡ e → ToldAlike (our_walk S p zero l o) (walk itself walk_over (other S t) p zero l o)
      go true e = rw (e, our_walk, at_end_same S t a p ∙ e, walk) (record { answer = refl; out = refl; after = finish-alike S f p hp busy t a })
      go false e = rw (e, our_walk, at_end_same S t a p ∙ e, walk) (record { answer = refl; out = refl; after = record { table = t; is = refl; alike = a } })
  walk-alike (suc b) S l f busy t a = go (walk-alike b) (at_end S p) refl
    where
      more : WalksAlike b → (X Y : Store) → Fine X → BusyAt X p → Twin X Y → (u v : Option Slot) → Found u v
          → ToldAlike (elim u as (λ y. Told) [ none ↦ our_walk X p b (suc l) o | some s ↦ told (Answer.drew (Draw.in_hand (suc l) b)) X (version s) ])
          (elim v as (λ y. Told) [ none ↦ walk itself walk_over Y p b (suc l) o | some s ↦ told (Answer.drew (Draw.in_hand (suc l) b)) Y (version s) ])
      more ih X Y g w z none none q = subst (λ (W : Store). ToldAlike (our_walk X p b (suc l) o) (walk itself walk_over W p b (suc l) o)) (sym z.is) (ih X (suc l) g w z.table z.alike)
      more ih X Y g w z none (some v) q = absurd q
      more ih X Y g w z (some u) none q = absurd q
      more ih X Y g w z (some u) (some v) q = record { answer = refl; out = q; after = z }

      go : WalksAlike b → (e : Bool) → at_end S p ≡ e → ToldAlike (our_walk S p (suc b) l o) (walk itself walk_over (other S t) p (suc b) l o)
      go ih true e = rw (e, our_walk, at_end_same S t a p ∙ e, walk) (record { answer = refl; out = refl; after = finish-alike S f p hp busy t a })
      go ih false e =
          let x = look-alike S f p hp busy t a in
          rw (e, our_walk, at_end_same S t a p ∙ e, walk)
          (more ih (our_look S p).0 (look itself walk_over (other S t) p).0 (look_fine S f p hp busy e) (look_busy S f p hp busy e) x.after (our_look S p).1 (look itself walk_over (other S t) p).1 x.found)
