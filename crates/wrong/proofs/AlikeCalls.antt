-- Every call on our store and on the one that clears its bits at begin: the same refusals, and stores that are alike again.
use mathlib.Core.Path.{◌≡◌, refl, sym, ap, ◌∙◌, subst}
use mathlib.Core.Bool.{Bool, true, false, not, ◌&&◌, false≢true}
use mathlib.Core.Option.{Option, none, some}
use mathlib.Core.List.{List, [], ◌∷◌, map}
use Prim.Native.Nat.{ℕ, ◌^◌, ◌≤◌, ◌<◌}
use native.Mathlib.Omega.{arith}
use native.Mathlib.Decide.{ℕ_discrete}
use lib.Bits.{bit_xor, and_le_l}
use lib.Dec.{ltb, eqb}
use lib.ListN.{length, get_or, set, length-set, length-map, get_or-map}
use lib.Pow.{pow_pos}
use borrow.Author.Tests.{ltb-true, eqb-true, not-false}
use Rattle.wrong.specs.ClearAtBegin.{cleared_if, cleared_slot, cleared_all, clearing}
use Rattle.wrong.specs.Ways.{effect_by}
use Rattle.demands.specs.DemandTwo.{Unrefused}
use Rattle.demands.specs.History.{Version}
use Rattle.rules.specs.Passed.{All, Byte}
use Rattle.demands.specs.Machine.{Within}
use Rattle.demands.specs.Masks.{one_if}
use Rattle.rules.specs.Calls.{slot_in, in_use, bearing, empty_slot, shelf_entry, free_position, position_of, inserted, unawaited, present, replaced, changed_by, changed, given}
use Rattle.rules.specs.Masks.{bit, on, NOT, scan_mask, Masks, cleared, walk_begun, new_status}
use Rattle.rules.specs.Memory.{Slot, slot, free, Store, store, T, R}
use Rattle.rules.specs.Next.{Told}
use Rattle.rules.specs.Refusals.{Call, Change, Reading, kind_right, own_right, first_of, there, no_room, own_refusals, effect}
use Rattle.rules.proofs.Bits.{bit_low, bit-zero, bit-xor}
use Rattle.rules.proofs.TableOne.{new_passed, clear_own, clear_other}
use Rattle.rules.proofs.First.{first_found}
use Rattle.stores.proofs.FirstOf.{Untrue, same_first}
use Rattle.wrong.proofs.Alike.{unturned, other, SlotAlike, Alike, Twin, in_use_some, free-alike, bearing-same, there-same, there-used, unawaited-same, present-same}
use Rattle.wrong.proofs.AlikeLooks.{walk-alike}
use Rattle.demands.proofs.invariant.BeginKeeps.{free_seat}
use Rattle.stores.proofs.ChangesFine.{Writes, new_small, replaced_sized}
use Rattle.demands.proofs.invariant.Invariant.{Inv, resting}
use Rattle.stores.proofs.LooksFine.{ticket_busy}
use Rattle.demands.proofs.invariant.Marks.{OK, set_both}
use Rattle.demands.proofs.invariant.Moment.{Moment, aw, table_of}
use Rattle.stores.proofs.OnePosition.{Fine, n_most}
use Rattle.stores.proofs.Sizes.{SlotSized, set_all}
use Rattle.stores.proofs.Stays.{some_number, at_position, ticket-some, ticket-there}

-- ---- one slot

-- a status that a change writes: every scan in its table walk passes the record
new_alike : (m : Masks) (n k : ℕ) (b : List ℕ) → m.stable < 2 ^ 64 → m.local < 2 ^ 64 → 1 ≤ n → k ≡ n → SlotAlike m (slot n b (new_status m)) (slot k b (new_status (unturned m)))
unfolding new_status
new_alike m n k b hs hl u e =
    record {
      number = e;
      body = refl;
      empty = λ z. absurd (omega arith);
      bits = λ _ i h l. omega (arith, new_passed 64 0 m.local i (pow_pos 64) hl h l, bit-zero i, bit_low (new_status (unturned m)) i, bit-xor m.stable (new_status m) i, new_passed 64 m.stable m.local i hs hl h l);
    }

replaced-alike : (m : Masks) (s z : Slot) (b : Option (List ℕ)) (x y : ℕ) → ((c : List ℕ) → SlotAlike m (slot s.number c x) (slot z.number c y)) → SlotAlike m (replaced s b x) (replaced z b y)
replaced-alike m s z none x y h = free-alike m
replaced-alike m s z (some c) x y h = h c

-- the bit of position p cleared, where ours is stable for it
cleared-alike : (m : Masks) (p : ℕ) → p < 64 → (s z : Slot) → (1 ≤ s.number → bit (bit_xor m.stable s.mask) p ≡ 0) → SlotAlike m s z → SlotAlike (walk_begun m p) s (cleared_slot p z)
unfolding walk_begun
cleared-alike m p hp s z zero_there a = go (in_use z) refl
  where
    at : 1 ≤ s.number → (i : ℕ) → i < 64 → bit (cleared m.local p) i ≡ 0 → Dec (i ≡ p) → bit (cleared z.mask p) i ≡ bit (bit_xor m.stable s.mask) i
    at u i h l (yes d) = rw (d, clear_own z.mask p hp) (sym (zero_there u))
    at u i h l (no d) = clear_other z.mask p hp i h d ∙ a.bits u i h (sym (clear_other m.local p hp i h d) ∙ l)

    go : (x : Bool) → in_use z ≡ x → SlotAlike (walk_begun m p) s (cleared_if x z p)
    go true e = let w : 1 ≤ z.number = in_use_some z e in record { number = a.number; body = a.body; empty = λ q. absurd (omega (arith, a.number)); bits = λ u i h l. at u i h l (ℕ_discrete i p) }
    go false e = let w : z.number ≡ 0 = eqb-true _ _ (not-false _ e) in record { number = a.number; body = a.body; empty = a.empty; bits = λ u. absurd (omega (arith, a.number)) }

cleared_sized : (p : ℕ) (z : Slot) → SlotSized z → SlotSized (cleared_slot p z)
unfolding cleared
cleared_sized p z q = go (in_use z)
  where
    go : (x : Bool) → SlotSized (cleared_if x z p)
    go true = record { number = q.number; body = q.body; mask = omega (arith, and_le_l z.mask (NOT 64 (scan_mask p)), q.mask); bytes = q.bytes }
    go false = q

module _ (S : Store) (f : Fine S) (t : List Slot) (a : Alike S t) where
  -- ---- refusals

  no_room_same : (k : ℕ) → 1 ≤ k → there S k ≡ true → no_room (other S t) k ≡ no_room S k
  no_room_same k h e =
      ap (λ (b : Bool). not b && not (ltb (shelf_entry S) (R S))) (ap (unawaited (other S t)) (bearing-same S t a k) ∙ unawaited-same S f t a (bearing S.table k) (there-used S k h e))

  pub own_same : (c : Call) → first_of (own_refusals (other S t) c) ≡ first_of (own_refusals S c)
  unfolding own_refusals
  own_same (Call.opening n) = refl
  own_same (Call.change (Change.insert k b)) = λ j. first_of ((eqb k 0, 3) ∷ (not (kind_right b), 4) ∷ (there-same S t a k j, 5) ∷ (not (ltb (bearing-same S t a 0 j) (a.all j)), 7) ∷ [])
  own_same (Call.change (Change.modify k b)) =
      same_first (eqb k 0) (eqb k 0) 3 _ _ refl
      (λ z. same_first (not (kind_right b)) (not (kind_right b)) 4 _ _ refl
      (λ _. same_first (not (there (other S t) k)) (not (there S k)) 6 _ _ (ap not (there-same S t a k)) (λ e. ap (λ (x : Bool). first_of ((x, 8) ∷ [])) (no_room_same k (some_number k z) (not-false _ e)))))
  own_same (Call.change (Change.delete k)) =
      same_first (eqb k 0) (eqb k 0) 3 _ _ refl
      (λ z. same_first (not (there (other S t) k)) (not (there S k)) 6 _ _ (ap not (there-same S t a k)) (λ e. ap (λ (x : Bool). first_of ((x, 8) ∷ [])) (no_room_same k (some_number k z) (not-false _ e))))
  own_same Call.begin = refl
  own_same (Call.next u b o) = refl
  own_same (Call.reading (Reading.peek u)) = refl
  own_same (Call.reading Reading.tally) = refl
  own_same (Call.reading (Reading.owed u)) = refl

  -- ---- changes

  set-alike : (i : ℕ) → i < T S → (s z : Slot) → SlotAlike S.desk.masks s z → SlotSized z → (shelf : List Slot) → Alike (store S.desk (set S.table i s) shelf) (set t i z)
  set-alike i h s z x y shelf =
      record {
        all = length-set t i z ∙ a.all ∙ sym (length-set S.table i s);
        slots = set_both (λ j s z. SlotAlike S.desk.masks s z) (λ j s z. SlotAlike S.desk.masks s z) free free S.table t i h (rw a.all h) s z x (λ j d w. w) a.slots;
        sized = set_all SlotSized free t i z a.sized y;
      }

  inserted-alike : (k : ℕ) (b : List ℕ) → 1 ≤ k → k < 4294967296 → length b ≡ 52 → All Byte b → empty_slot S.table < T S → Twin (inserted S k b) (inserted (other S t) k b)
  unfolding inserted
  inserted-alike k b low hk hb bb h =
      let z : Slot = slot k b (new_status (unturned S.desk.masks)) in
      record {
        table = set t (empty_slot S.table) z;
        is = ap (λ (i : ℕ). store (other S t).desk (set t i z) S.shelf) (bearing-same S t a 0);
        alike = set-alike (empty_slot S.table) h (slot k b (new_status S.desk.masks)) z (new_alike S.desk.masks k k b f.sized.desk.stable f.sized.desk.local low refl)
            (record { number = hk; body = hb; mask = new_small (unturned S.desk.masks); bytes = bb }) S.shelf;
      }

  changed-alike : (i : ℕ) → i < T S → 1 ≤ (slot_in S.table i).number → (b : Option (List ℕ)) → Writes b → Twin (changed S i b) (changed (other S t) i b)
  unfolding changed_by
  changed-alike i h u b w = subst (λ (x : Bool). Twin (changed S i b) (changed_by x (other S t) i b)) (sym (unawaited-same S f t a i u)) (go (unawaited S i))
    where
      go : (x : Bool) → Twin (changed_by x S i b) (changed_by x (other S t) i b)
      go true = record {
        table = set t i (replaced (slot_in t i) b (slot_in t i).mask);
        is = refl;
        alike = set-alike i h (replaced (slot_in S.table i) b (slot_in S.table i).mask) (replaced (slot_in t i) b (slot_in t i).mask)
            (replaced-alike S.desk.masks (slot_in S.table i) (slot_in t i) b _ _ (λ c. record { number = (a.slots i).number; body = refl; empty = λ e. absurd (omega arith); bits = (a.slots i).bits }))
            (replaced_sized (slot_in t i) b (slot_in t i).mask (a.sized i) w (a.sized i).mask) S.shelf;
      }
      go false = record {
        table = set t i (replaced (slot_in t i) b (new_status (unturned S.desk.masks)));
        is = ap (λ (s : Slot). store (other S t).desk (set t i (replaced (slot_in t i) b (new_status (unturned S.desk.masks)))) (set S.shelf (shelf_entry S) s)) (present-same S f t a i u);
        alike = set-alike i h (replaced (slot_in S.table i) b (new_status S.desk.masks)) (replaced (slot_in t i) b (new_status (unturned S.desk.masks)))
            (replaced-alike S.desk.masks (slot_in S.table i) (slot_in t i) b _ _ (λ c. new_alike S.desk.masks (slot_in S.table i).number (slot_in t i).number c f.sized.desk.stable f.sized.desk.local u (a.slots i).number))
            (replaced_sized (slot_in t i) b (new_status (unturned S.desk.masks)) (a.sized i) w (new_small (unturned S.desk.masks))) (set S.shelf (shelf_entry S) (present S i));
      }

  -- ---- begin

  begun-alike : (p : ℕ) → p < 64 → ((i : ℕ) → 1 ≤ (slot_in S.table i).number → bit (bit_xor S.desk.masks.stable (slot_in S.table i).mask) p ≡ 0) → Twin (given S p) (cleared_all (given (other S t) p) p)
  unfolding given cleared_all walk_begun
  begun-alike p hp zero_there =
      record {
        table = map (cleared_slot p) t;
        is = refl;
        alike = record {
          all = length-map t (cleared_slot p) ∙ a.all;
          slots = λ i. rw (get_or-map (cleared_slot p) t i free) (cleared-alike S.desk.masks p hp (slot_in S.table i) (slot_in t i) (zero_there i) (a.slots i));
          sized = λ i. rw (get_or-map (cleared_slot p) t i free) (cleared_sized p (slot_in t i) (a.sized i));
        };
      }

-- ---- every call

-- peek, tally and owed are not refused; every other call answers and hands out the same
abbrev pub Likewise : Call → Told → Told → Type 0
Likewise (Call.opening n) x y = (y.answer ≡ x.answer) × (y.out ≡ x.out)
Likewise (Call.change c) x y = (y.answer ≡ x.answer) × (y.out ≡ x.out)
Likewise Call.begin x y = (y.answer ≡ x.answer) × (y.out ≡ x.out)
Likewise (Call.next t b o) x y = (y.answer ≡ x.answer) × (y.out ≡ x.out)
Likewise (Call.reading q) x y = Unrefused y.answer

pub record CallAlike (c : Call) (x y : Told) : Type 0 where
  pub says : Likewise c x y
  pub after : Twin x.after y.after

module _ {now : Moment} (q : Inv now) (u : List Slot) (a : Alike now.store u) where
  abbrev S : Store
  S = now.store

  -- at a free position every record of ours is stable
  free-stable : (p : ℕ) → p < 64 → bit S.desk.masks.active p ≡ 1 → (i : ℕ) → 1 ≤ (slot_in S.table i).number → bit (bit_xor S.desk.masks.stable (slot_in S.table i).mask) p ≡ 0
  free-stable p hp e i low = go (get_or now.table i none) (q.table_marks i)
    where
      go : (o : Option Version) → OK now (table_of now) i (slot_in S.table i) o → bit (bit_xor S.desk.masks.stable (slot_in S.table i).mask) p ≡ 0
      go none w = absurd (omega (arith, ap (λ (s : Slot). s.number) w))
      go (some v) w = w.bits p hp ∙ ap (λ (x : ℕ). one_if (eqb x 0 && not (aw now p v))) (resting q p hp (free_seat q p e)).local

  change-alike : (k : ℕ) (b : Option (List ℕ)) → Writes b → eqb k 0 ≡ false → not (there S k) ≡ false → Twin (changed S (bearing S.table k) b) (changed (other S u) (bearing u k) b)
  change-alike k b w z e =
      let y : there S k ≡ true = not-false _ e in
      subst (λ (i : ℕ). Twin (changed S (bearing S.table k) b) (changed (other S u) i b)) (sym (bearing-same S u a k))
      (changed-alike S q.fine u a (bearing S.table k) (ltb-true _ _ y) (there-used S k (some_number k z) y) b w)

  pub effect-alike : (c : Call) → Within c → own_right c ≡ true → Untrue (own_refusals S c) → CallAlike c (effect S c) (effect_by clearing (other S u) c)
  unfolding effect effect_by own_refusals own_right
  effect-alike (Call.opening m) w own e = absurd (false≢true (sym w.1 ∙ not-false _ e.0))
  effect-alike (Call.change (Change.insert k b)) w own e =
      record { says = (refl, refl); after = inserted-alike S q.fine u a k b (some_number k e.0) w.0 (eqb-true _ _ own) w.1 (ltb-true _ _ (not-false _ e.1.1.1.0)) }
  effect-alike (Call.change (Change.modify k b)) w own e = record { says = (refl, refl); after = change-alike k (some b) (eqb-true _ _ own, w.1) e.0 e.1.1.0 }
  effect-alike (Call.change (Change.delete k)) w own e = record { says = (refl, refl); after = change-alike k none tt e.0 e.1.0 }
  effect-alike Call.begin w own e =
      let p : free_position S < S.desk.n = ltb-true _ _ (not-false _ e.0) in
      let hp : free_position S < 64 = omega (arith, n_most S q.fine) in
      let x : bit S.desk.masks.active (free_position S) ≡ 1 = eqb-true _ _ (first_found (λ i. on S.desk.masks.active i) 0 S.desk.n (omega arith)) in
      record { says = (refl, refl); after = begun-alike S q.fine u a (free_position S) hp (free-stable (free_position S) hp x) }
  effect-alike (Call.next k b o) w own e =
      let p : position_of S k < 64 = at_position S k e.0 in
      let x = walk-alike (position_of S k) p o b S 0 q.fine (ticket_busy S q.fine (position_of S k) p (omega (arith, ticket-there S k e.0, ticket-some S k e.0))) u a in
      record { says = (x.answer, x.out); after = x.after }
  effect-alike (Call.reading (Reading.peek k)) w own e = record { says = λ m z. let y : ◌≡◌ {A = ℕ} 0 1 = cc in omega arith; after = record { table = u; is = refl; alike = a } }
  effect-alike (Call.reading Reading.tally) w own e = record { says = λ m z. let y : ◌≡◌ {A = ℕ} 0 1 = cc in omega arith; after = record { table = u; is = refl; alike = a } }
  effect-alike (Call.reading (Reading.owed k)) w own e = record { says = λ m z. let y : ◌≡◌ {A = ℕ} 0 1 = cc in omega arith; after = record { table = u; is = refl; alike = a } }
