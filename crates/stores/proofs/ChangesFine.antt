-- Insert, modify, delete and begin leave a store fine.
use mathlib.Core.Path.{◌≡◌, refl}
use mathlib.Core.Bool.{Bool, true, false}
use mathlib.Core.Option.{Option, none, some}
use mathlib.Core.List.{List}
use mathlib.Core.Logic.{inl, inr}
use Prim.Native.Nat.{ℕ, zero, suc, ◌+◌, ◌^◌, ◌≤◌, ◌<◌}
use native.Mathlib.Nat.{div-eq_of_lt}
use native.Mathlib.Omega.{arith}
use lib.Bits.{bit_xor, or_lt, xor_lt}
use lib.ListN.{length, get_or, set, replicate, length-set, length-replicate, get_or-replicate}
use lib.Pow.{pow_pos}
use borrow.Author.Tests.{lt-ltb}
use Rattle.rules.specs.Passed.{All, Byte}
use Rattle.rules.specs.Calls.{slot_in, empty_slot, shelf_entry, present, replaced, inserted, changed_by, given, opened}
use Rattle.rules.specs.Masks.{from, Masks, walk_begun, new_status, m_of, REMSET_MASK_INS, STATUS_MASK_UPD}
use Rattle.rules.specs.Memory.{Slot, slot, free, card, idle, Store, store, T, R}
use Rattle.rules.specs.Sound.{all_zero, n_in_range}
use Rattle.rules.proofs.Bits.{not_small, bit-ones}
use Rattle.rules.proofs.TableOne.{clear_own}
use Rattle.stores.proofs.OnePosition.{Fine, n_most, moved-begun, moves}
use Rattle.stores.proofs.Sizes.{CardSized, SlotSized, set_all, replicate-all, zero-bytes, idle_sized, free_sized}
use Rattle.stores.proofs.SoundDesk.{Busy, range}

pub new_small : (m : Masks) → new_status m < 2 ^ 64
unfolding new_status STATUS_MASK_UPD
new_small m = not_small 64 (bit_xor m.stable m.local)

pub m_small : (m : Masks) (x : ℕ) → m.stable < 2 ^ 64 → m.local < 2 ^ 64 → x < 2 ^ 64 → m_of m x < 2 ^ 64
unfolding m_of REMSET_MASK_INS
m_small m x s l h = or_lt 64 (bit_xor m.stable x) m.local (xor_lt 64 m.stable x s h) l

-- the same desk over other slots and entries of right size
pub stands : (S : Store) → Fine S → (t s : List Slot) → length t ≡ T S → length s ≡ R S → ((i : ℕ) → SlotSized (get_or t i free)) → ((i : ℕ) → SlotSized (get_or s i free)) → Fine (store S.desk t s)
stands S f t s lt ls zt zs = record { sized = record { desk = f.sized.desk; table = zt; shelf = zs }; sound = rw (lt, ls) f.sound; slots = rw lt f.slots; small = rw (lt, ls) f.small }

pub inserted_fine : (S : Store) → Fine S → (k : ℕ) (b : List ℕ) → k < 4294967296 → length b ≡ 52 → All Byte b → Fine (inserted S k b)
unfolding inserted
inserted_fine S f k b hk hb bb =
    let s : Slot = slot k b (new_status S.desk.masks) in
    stands S f (set S.table (empty_slot S.table) s) S.shelf (length-set S.table (empty_slot S.table) s) refl
    (set_all SlotSized free S.table (empty_slot S.table) s f.sized.table (record { number = hk; body = hb; mask = new_small S.desk.masks; bytes = bb })) f.sized.shelf

-- the body that a change writes, if it writes one
abbrev pub Writes : Option (List ℕ) → Type 0
Writes none = Unit
Writes (some b) = (length b ≡ 52) × All Byte b

pub replaced_sized : (s : Slot) (b : Option (List ℕ)) (m : ℕ) → SlotSized s → Writes b → m < 2 ^ 64 → SlotSized (replaced s b m)
replaced_sized s none m z w h = free_sized
replaced_sized s (some b) m z w h = record { number = z.number; body = w.0; mask = h; bytes = w.1 }

pub changed_fine : (x : Bool) (S : Store) → Fine S → (i : ℕ) (b : Option (List ℕ)) → Writes b → Fine (changed_by x S i b)
unfolding changed_by
changed_fine true S f i b w =
    let s : Slot = replaced (slot_in S.table i) b (slot_in S.table i).mask in
    stands S f (set S.table i s) S.shelf (length-set S.table i s) refl
    (set_all SlotSized free S.table i s f.sized.table (replaced_sized (slot_in S.table i) b (slot_in S.table i).mask (f.sized.table i) w (f.sized.table i).mask)) f.sized.shelf
changed_fine false S f i b w =
    let s : Slot = replaced (slot_in S.table i) b (new_status S.desk.masks) in
    stands S f (set S.table i s) (set S.shelf (shelf_entry S) (present S i)) (length-set S.table i s) (length-set S.shelf (shelf_entry S) (present S i))
    (set_all SlotSized free S.table i s f.sized.table (replaced_sized (slot_in S.table i) b (new_status S.desk.masks) (f.sized.table i) w (new_small S.desk.masks)))
    (set_all SlotSized free S.shelf (shelf_entry S) (present S i) f.sized.shelf
    (record {
      number = (f.sized.table i).number;
      body = (f.sized.table i).body;
      mask = m_small S.desk.masks (slot_in S.table i).mask f.sized.desk.stable f.sized.desk.local (f.sized.table i).mask;
      bytes = (f.sized.table i).bytes;
    }))

newcomer : (S : Store) → Fine S → (p : ℕ) → p < 64 → Busy (walk_begun S.desk.masks p) (T S) (R S) (S.desk.last + 1) (card (S.desk.last + 1) 0 0 0) p
unfolding walk_begun
newcomer S f p h =
    record {
      ticket = omega arith;
      given = omega arith;
      active = clear_own S.desk.masks.active p h;
      place = omega arith;
      local = rw (clear_own S.desk.masks.local p h) (lt-ltb 0 (T S) f.slots);
      handed = omega arith;
      rest = refl;
    }

pub given_fine : (S : Store) → Fine S → (p : ℕ) → p < S.desk.n → S.desk.last < 4294967295 → Fine (given S p)
unfolding given
given_fine S f p hp hl =
    let most : S.desk.n ≤ 64 = n_most S f in
    moves S f p hp (S.desk.last + 1) (walk_begun S.desk.masks p) (card (S.desk.last + 1) 0 0 0) S.table S.shelf (omega arith) (omega arith) (moved-begun S f p hp)
    (inr (newcomer S f p (omega arith))) (record { ticket = omega arith; place = omega arith; handed = omega arith; rest = omega arith }) refl refl f.sized.table f.sized.shelf

zeros-zero : (n : ℕ) → all_zero (replicate n 0) ≡ true
unfolding all_zero
zeros-zero zero = refl
zeros-zero (suc n) = zeros-zero n

pub none_high : (n : ℕ) → from n 0 ≡ 0
unfolding from
none_high n = div-eq_of_lt (pow_pos n)

pub opened_fine : (n t r : ℕ) → n_in_range n ≡ true → 1 ≤ t → t + r < 4294967296 → Fine (opened n t r)
unfolding opened
opened_fine n t r hn ht hs =
    let w = range n hn in
    let lt : length (replicate t free) ≡ t = length-replicate t free in
    let lr : length (replicate r free) ≡ r = length-replicate r free in
    record {
      sized = record {
        desk = record {
          n = omega (arith, w.1);
          t = omega arith;
          r = omega arith;
          last = omega arith;
          stable = omega arith;
          active = omega arith;
          local = omega arith;
          zeros = length-replicate {A = ℕ} 24 0;
          bytes = zero-bytes 24;
          all = length-replicate 64 idle;
          cards = replicate-all CardSized idle 64 idle idle_sized idle_sized;
        };
        table = replicate-all SlotSized free t free free_sized free_sized;
        shelf = replicate-all SlotSized free r free free_sized free_sized;
      };
      sound = rw (lt, lr) (record {
        n = hn;
        is_t = refl;
        is_r = refl;
        zeros = zeros-zero 24;
        stable = none_high n;
        active = refl;
        local = refl;
        cards = λ i h. rw (get_or-replicate 64 i idle idle (rw (length-replicate 64 idle) at h)) (inl (record { none = refl; active = bit-ones 64 i (rw (length-replicate 64 idle) at h); local = bit-ones 64 i (rw (length-replicate 64 idle) at h) }));
      });
      slots = rw lt ht;
      small = rw (lt, lr) hs;
    }
