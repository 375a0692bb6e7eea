-- One position of the desk moves: what stays of the masks, of the sizes and of a sound desk.
use mathlib.Core.Path.{◌≡◌, refl, ◌∙◌}
use mathlib.Core.Bool.{Bool, true, false}
use mathlib.Core.List.{List}
use mathlib.Core.Logic.{inl, inr}
use Prim.Native.Nat.{ℕ, ◌+◌, ◌^◌, ◌≤◌, ◌<◌}
use native.Mathlib.Omega.{arith}
use native.Mathlib.Decide.{ℕ_discrete}
use lib.Bits.{or_lt, xor_lt, and_le_l}
use lib.Dec.{ltb}
use lib.ListN.{length, get_or, set, length-set}
use lib.Seq.{get_or-set_same, get_or-set_other}
use borrow.Author.Tests.{ltb-true, ltb-false}
use Rattle.rules.specs.declared.Card.{Card}
use Rattle.rules.specs.Masks.{bit, ones, NOT, from, scan_mask, Masks, cleared, walk_begun, walk_ended, ended, STABLE_FLIP, LCL_ACTIVE_MASK_UPD, ACTIVE_MASK_UPD}
use Rattle.rules.specs.Memory.{Slot, free, idle, desk, Store, store, T, R}
use Rattle.rules.proofs.Bits.{scan_small}
use Rattle.rules.proofs.TableOne.{set_other, clear_other}
use Rattle.stores.proofs.HighBits.{from_flip, from-set, from_clear, high_one}
use Rattle.stores.proofs.Sizes.{CardSized, SlotSized, DeskSized, Sized, set_all}
use Rattle.stores.proofs.SoundDesk.{Busy, CardSound, Sound, range}

-- masks before and after a move of position p
pub record Moved (n p : ℕ) (m k : Masks) : Type 0 where
  pub stable : k.stable < 2 ^ 64
  pub active : k.active < 2 ^ 64
  pub local : k.local < 2 ^ 64
  pub stable_high : from n k.stable ≡ from n m.stable
  pub active_high : from n k.active ≡ from n (ones 64)
  pub local_high : from n k.local ≡ from n (ones 64)
  pub other_active : (i : ℕ) → i < 64 → (i ≡ p → ⊥) → bit k.active i ≡ bit m.active i
  pub other_local : (i : ℕ) → i < 64 → (i ≡ p → ⊥) → bit k.local i ≡ bit m.local i

-- a store of right sizes whose desk is sound, and whose places are 32-bit numbers
pub record Fine (S : Store) : Type 0 where
  pub sized : Sized S
  pub sound : Sound S.desk (T S) (R S)
  pub slots : 1 ≤ T S
  pub small : T S + R S < 4294967296

pub n_most : (S : Store) → Fine S → S.desk.n ≤ 64
n_most S f = (range S.desk.n f.sound.n).1

module _ (S : Store) (f : Fine S) (p : ℕ) (hp : p < S.desk.n) where
  most : S.desk.n ≤ 64
  most = n_most S f

  hp64 : p < 64
  hp64 = omega (arith, most)

  pub moved-not : Moved S.desk.n p S.desk.masks S.desk.masks
  moved-not =
      record {
        stable = f.sized.desk.stable;
        active = f.sized.desk.active;
        local = f.sized.desk.local;
        stable_high = refl;
        active_high = f.sound.active;
        local_high = f.sound.local;
        other_active = λ i h d. refl;
        other_local = λ i h d. refl;
      }

  pub moved-begun : Moved S.desk.n p S.desk.masks (walk_begun S.desk.masks p)
  unfolding walk_begun cleared
  moved-begun =
      record {
        stable = f.sized.desk.stable;
        active = omega (arith, and_le_l S.desk.masks.active (NOT 64 (scan_mask p)), f.sized.desk.active);
        local = omega (arith, and_le_l S.desk.masks.local (NOT 64 (scan_mask p)), f.sized.desk.local);
        stable_high = refl;
        active_high = from_clear S.desk.n p S.desk.masks.active hp most f.sound.active;
        local_high = from_clear S.desk.n p S.desk.masks.local hp most f.sound.local;
        other_active = λ i h d. clear_other S.desk.masks.active p hp64 i h d;
        other_local = λ i h d. clear_other S.desk.masks.local p hp64 i h d;
      }

  pub moved-walk-ended : Moved S.desk.n p S.desk.masks (walk_ended S.desk.masks p)
  unfolding walk_ended STABLE_FLIP LCL_ACTIVE_MASK_UPD
  moved-walk-ended =
      record {
        stable = xor_lt 64 S.desk.masks.stable (scan_mask p) f.sized.desk.stable (scan_small 64 p hp64);
        active = f.sized.desk.active;
        local = or_lt 64 S.desk.masks.local (scan_mask p) f.sized.desk.local (scan_small 64 p hp64);
        stable_high = from_flip S.desk.n p S.desk.masks.stable hp;
        active_high = f.sound.active;
        local_high = from-set S.desk.n p S.desk.masks.local hp ∙ f.sound.local;
        other_active = λ i h d. refl;
        other_local = λ i h d. set_other S.desk.masks.local p i d;
      }

  pub moved-ended : Moved S.desk.n p S.desk.masks (ended S.desk.masks p)
  unfolding ended ACTIVE_MASK_UPD
  moved-ended =
      record {
        stable = f.sized.desk.stable;
        active = or_lt 64 S.desk.masks.active (scan_mask p) f.sized.desk.active (scan_small 64 p hp64);
        local = f.sized.desk.local;
        stable_high = refl;
        active_high = from-set S.desk.n p S.desk.masks.active hp ∙ f.sound.active;
        local_high = f.sound.local;
        other_active = λ i h d. set_other S.desk.masks.active p i d;
        other_local = λ i h d. refl;
      }

  -- the desk with another card at p, other masks and a last ticket that is no lower, over slots and entries of right size
  pub moves : (g : ℕ) (m : Masks) (c : Card) (t s : List Slot) → S.desk.last ≤ g → g < 4294967296 → Moved S.desk.n p S.desk.masks m
      → CardSound m (T S) (R S) g c p → CardSized c → length t ≡ T S → length s ≡ R S → ((i : ℕ) → SlotSized (get_or t i free)) → ((i : ℕ) → SlotSized (get_or s i free))
      → Fine (store (desk S.desk.n S.desk.t S.desk.r g m S.desk.zeros (set S.desk.cards p c)) t s)
  moves g m c t s hg sg mv own cs lt ls zt zs =
      record {
        sized = record {
          desk = record {
            n = z.n;
            t = z.t;
            r = z.r;
            last = sg;
            stable = mv.stable;
            active = mv.active;
            local = mv.local;
            zeros = z.zeros;
            bytes = z.bytes;
            all = length-set S.desk.cards p c ∙ z.all;
            cards = set_all CardSized idle S.desk.cards p c z.cards cs;
          };
          table = zt;
          shelf = zs;
        };
        sound = rw (lt, ls) (record {
          n = q.n;
          is_t = q.is_t;
          is_r = q.is_r;
          zeros = q.zeros;
          stable = mv.stable_high ∙ q.stable;
          active = mv.active_high;
          local = mv.local_high;
          cards = λ i h. card i (let y : i < length S.desk.cards = rw (length-set S.desk.cards p c) at h in omega (arith, z.all)) (ℕ_discrete i p);
        });
        slots = rw lt f.slots;
        small = rw (lt, ls) f.small;
      }
    where
      z : DeskSized S.desk
      z = f.sized.desk

      q : Sound S.desk (T S) (R S)
      q = f.sound

      keeps : (i : ℕ) (k : Card) → i < 64 → (i ≡ p → ⊥) → CardSound S.desk.masks (T S) (R S) S.desk.last k i → CardSound m (T S) (R S) g k i
      keeps i k h d (inl x) = inl (record { none = x.none; active = mv.other_active i h d ∙ x.active; local = mv.other_local i h d ∙ x.local })
      keeps i k h d (inr x) =
          inr (record {
            ticket = x.ticket;
            given = omega (arith, x.given);
            active = mv.other_active i h d ∙ x.active;
            place = x.place;
            local = rw (mv.other_local i h d) x.local;
            handed = x.handed;
            rest = x.rest;
          })

      card : (i : ℕ) → i < 64 → Dec (i ≡ p) → CardSound m (T S) (R S) g (get_or (set S.desk.cards p c) i idle) i
      card i h (yes d) = rw (d, get_or-set_same S.desk.cards p c idle (omega (arith, z.all, hp64))) own
      card i h (no d) = rw (get_or-set_other S.desk.cards p i c idle d) (keeps i (get_or S.desk.cards i idle) h d (q.cards i (omega (arith, z.all))))

-- a busy position is below N
pub busy_below : (S : Store) → Fine S → (p : ℕ) → p < 64 → Busy S.desk.masks (T S) (R S) S.desk.last (get_or S.desk.cards p idle) p → p < S.desk.n
busy_below S f p h b = go (ltb p S.desk.n) refl
  where
    go : (x : Bool) → ltb p S.desk.n ≡ x → p < S.desk.n
    go true e = ltb-true p S.desk.n e
    go false e = absurd (omega (arith, b.active, high_one S.desk.n p S.desk.masks.active (ltb-false p S.desk.n e) h f.sound.active))
