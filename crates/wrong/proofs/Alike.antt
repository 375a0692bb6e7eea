-- Our store and the one that clears its bits at begin: when they are alike, and what is then the same of both.
use mathlib.Core.Path.{◌≡◌, refl, sym, ap, ◌∙◌}
use mathlib.Core.Bool.{Bool, true, false}
use mathlib.Core.List.{List}
use mathlib.Core.Logic.{inl, inr}
use Prim.Native.Nat.{ℕ, ◌+◌, ◌%◌, ◌≤◌, ◌<◌, max}
use native.Mathlib.Omega.{arith}
use lib.Bits.{bit_xor}
use lib.Dec.{ltb, eqb}
use lib.ListN.{length}
use lib.Pow.{pow_pos}
use borrow.Author.Tests.{ltb-true, eqb-true, eqb-false, not-true}
use Rattle.rules.specs.Calls.{first, slot_in, in_use, bearing, card_of, m_at, unawaited, present}
use Rattle.rules.specs.Masks.{bit, off, all_ones, Masks, masks, m_of}
use Rattle.rules.specs.Memory.{Slot, slot, free, desk, Store, store, T, R}
use Rattle.rules.specs.Refusals.{there}
use Rattle.rules.proofs.Bits.{bit_low, bit-zero, bit-xor, bit_ext}
use Rattle.rules.proofs.TableOne.{m_bit}
use Rattle.rules.proofs.First.{first_found}
use Rattle.stores.proofs.ChangesFine.{m_small, none_high}
use Rattle.stores.proofs.OnePosition.{Fine}
use Rattle.stores.proofs.Sizes.{SlotSized, Sized}
use Rattle.stores.proofs.SoundDesk.{CardSound, Sound}
use Rattle.stores.proofs.Stays.{some_number}

-- the masks of the other store: its stable bits never turn
abbrev pub unturned : Masks → Masks
unturned m = masks 0 m.active m.local

-- our store but for the stable mask, over another table
abbrev pub other : Store → List Slot → Store
other S t = store (desk S.desk.n S.desk.t S.desk.r S.desk.last (unturned S.desk.masks) S.desk.zeros S.desk.cards) t S.shelf

-- a slot s of ours and z of the other: the same record, and to each scan in its table walk stable in both or in neither
pub record SlotAlike (m : Masks) (s z : Slot) : Type 0 where
  pub number : z.number ≡ s.number
  pub body : z.body ≡ s.body
  pub empty : s.number ≡ 0 → z ≡ s
  pub bits : 1 ≤ s.number → (i : ℕ) → i < 64 → bit m.local i ≡ 0 → bit z.mask i ≡ bit (bit_xor m.stable s.mask) i

-- slot by slot, over a table that bytes can spell
pub record Alike (S : Store) (t : List Slot) : Type 0 where
  pub all : length t ≡ T S
  pub slots : (i : ℕ) → SlotAlike S.desk.masks (slot_in S.table i) (slot_in t i)
  pub sized : (i : ℕ) → SlotSized (slot_in t i)

-- Z is the other store beside S
pub record Twin (S Z : Store) : Type 0 where
  pub table : List Slot
  pub is : Z ≡ other S table
  pub alike : Alike S table

-- ---- a slot, while the masks move

pub in_use_some : (s : Slot) → in_use s ≡ true → 1 ≤ s.number
in_use_some s e = some_number s.number (not-true _ e)

-- masks that leave alike what is alike: a position in its table walk was in it before, with the same stable bit
pub slot_stays : (m k : Masks) → ((i : ℕ) → i < 64 → bit k.local i ≡ 0 → (bit m.local i ≡ 0) × (bit k.stable i ≡ bit m.stable i)) → (s z : Slot) → SlotAlike m s z → SlotAlike k s z
slot_stays m k h s z a =
    record {
      number = a.number;
      body = a.body;
      empty = a.empty;
      bits = λ u i l e. a.bits u i l (h i l e).0 ∙ bit-xor m.stable s.mask i ∙ ap (λ (x : ℕ). (x + bit s.mask i) % 2) (sym (h i l e).1) ∙ sym (bit-xor k.stable s.mask i);
    }

pub free-alike : (m : Masks) → SlotAlike m free free
free-alike m = record { number = refl; body = refl; empty = λ _. refl; bits = λ u. absurd (omega arith) }

-- ---- a store

-- a slot that is found by a number is in use
pub there-used : (S : Store) (k : ℕ) → 1 ≤ k → there S k ≡ true → 1 ≤ (slot_in S.table (bearing S.table k)).number
there-used S k h e =
    let l : bearing S.table k < T S = ltb-true _ _ e in
    let z : (slot_in S.table (bearing S.table k)).number ≡ k = eqb-true _ _ (first_found (λ i. eqb (slot_in S.table i).number k) 0 (T S) (omega arith)) in
    omega arith

module _ (S : Store) (t : List Slot) (a : Alike S t) where
  pub bearing-same : (k : ℕ) → bearing t k ≡ bearing S.table k
  bearing-same k = λ j. first (λ i. eqb ((a.slots i).number j) k) 0 (a.all j)

  pub there-same : (k : ℕ) → there (other S t) k ≡ there S k
  there-same k = λ j. ltb (bearing-same k j) (a.all j)

module _ (S : Store) (f : Fine S) (t : List Slot) (a : Alike S t) where
  pub other_sized : Sized (other S t)
  other_sized =
      let d = f.sized.desk in
      record {
        desk = record { n = d.n; t = d.t; r = d.r; last = d.last; stable = pow_pos 64; active = d.active; local = d.local; zeros = d.zeros; bytes = d.bytes; all = d.all; cards = d.cards };
        table = a.sized;
        shelf = f.sized.shelf;
      }

  pub other_sound : Sound (other S t).desk (T (other S t)) (R S)
  other_sound =
      let q = f.sound in
      record {
        n = q.n;
        is_t = q.is_t ∙ sym a.all;
        is_r = q.is_r;
        zeros = q.zeros;
        stable = none_high S.desk.n;
        active = q.active;
        local = q.local;
        cards = λ i h. card i (q.cards i h);
      }
    where
      card : (i : ℕ) → CardSound S.desk.masks (T S) (R S) S.desk.last (card_of S i) i → CardSound (unturned S.desk.masks) (length t) (R S) S.desk.last (card_of S i) i
      card i (inl x) = inl (record { none = x.none; active = x.active; local = x.local })
      card i (inr x) = rw a.all (inr (record { ticket = x.ticket; given = x.given; active = x.active; place = x.place; local = x.local; handed = x.handed; rest = x.rest }))

  -- m of a record: the same
  pub m_same : (i : ℕ) → 1 ≤ (slot_in S.table i).number → m_at (other S t) i ≡ m_at S i
  unfolding m_of
  m_same i u =
      bit_ext 64 (m_at (other S t) i) (m_at S i) (m_small (unturned S.desk.masks) (slot_in t i).mask (pow_pos 64) f.sized.desk.local (a.sized i).mask)
      (m_small S.desk.masks (slot_in S.table i).mask f.sized.desk.stable f.sized.desk.local (f.sized.table i).mask)
      (λ j h. m_bit 0 (slot_in t i).mask S.desk.masks.local j ∙ go j h (off S.desk.masks.local j) refl ∙ sym (m_bit S.desk.masks.stable (slot_in S.table i).mask S.desk.masks.local j))
    where
      go : (j : ℕ) → j < 64 → (b : Bool) → off S.desk.masks.local j ≡ b
          → max ((bit 0 j + bit (slot_in t i).mask j) % 2) (bit S.desk.masks.local j) ≡ max ((bit S.desk.masks.stable j + bit (slot_in S.table i).mask j) % 2) (bit S.desk.masks.local j)
      go j h true e =
          let l : bit S.desk.masks.local j ≡ 0 = eqb-true _ _ e in
          rw (bit-zero j, (a.slots i).bits u j h l, bit-xor S.desk.masks.stable (slot_in S.table i).mask j) (omega arith)
      go j h false e =
          let l : bit S.desk.masks.local j ≡ 1 = omega (arith, bit_low S.desk.masks.local j, eqb-false (bit S.desk.masks.local j) 0 e) in
          omega (arith, l)

  pub unawaited-same : (i : ℕ) → 1 ≤ (slot_in S.table i).number → unawaited (other S t) i ≡ unawaited S i
  unawaited-same i u = ap (all_ones 64) (m_same i u)

  pub present-same : (i : ℕ) → 1 ≤ (slot_in S.table i).number → present (other S t) i ≡ present S i
  present-same i u = λ j. slot ((a.slots i).number j) ((a.slots i).body j) (m_same i u j)
