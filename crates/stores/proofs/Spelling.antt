-- Lent bytes spell a store of right sizes, and a store of right sizes is written as bytes of right lengths.
use mathlib.Core.Path.{◌≡◌, refl, ◌∙◌}
use mathlib.Core.Bool.{Bool, true, false, ◌&&◌, false≢true}
use mathlib.Core.List.{List, [], ◌∷◌, ◌++◌}
use Prim.Native.Nat.{ℕ, zero, suc, ◌+◌, ◌*◌, ◌/◌, ◌%◌, ◌≤◌, ◌<◌}
use native.Mathlib.Omega.{arith}
use native.Mathlib.Decide.{dec_lt}
use lib.Dec.{eqb, leb}
use lib.ListN.{length, take, drop, get_or, length-append, get_or-eq_default}
use borrow.Author.Tests.{eqb-true, leb-true}
use Rattle.rules.specs.Passed.{All, Byte, LentBytes, LengthsRight}
use Rattle.rules.specs.declared.Card.{Card}
use Rattle.rules.specs.Bytes.{to_le, field}
use Rattle.rules.specs.Memory.{Lent, Slot, free, idle, Desk, Store, each, slot_at, slots_of, card_at, desk_of, store_of, read, joined, version, slot_bytes, card_bytes, masks_bytes, desk_bytes, written}
use Rattle.rules.specs.Refusals.{slots_right, lengths_right}
use Rattle.rules.proofs.Bytes.{Bytes, length-field, bytes-to_le, length-to_le, u32_small, u64_small}
use Rattle.rules.proofs.Each.{length-each, at_each}
use Rattle.rules.proofs.RoundTrip.{Right}
use Rattle.stores.proofs.Codec.{length-joined, length-slot, length-card}
use Rattle.stores.proofs.Sizes.{CardSized, SlotSized, DeskSized, Sized, idle_sized, free_sized}

-- ---- every element is a byte

to_bytes : (l : List ℕ) → All Byte l → Bytes l
to_bytes [] a i = omega arith
to_bytes (x ∷ l) a zero = a.0
to_bytes (x ∷ l) a (suc i) = to_bytes l a.1 i

of_bytes : (l : List ℕ) → Bytes l → All Byte l
of_bytes [] b = tt
of_bytes (x ∷ l) b = (b 0, of_bytes l (λ i. b (suc i)))

pub all_append : (a b : List ℕ) → All Byte a → All Byte b → All Byte (a ++ b)
all_append [] b x y = y
all_append (c ∷ a) b x y = (x.0, all_append a b x.1 y)

all_take : (n : ℕ) (l : List ℕ) → All Byte l → All Byte (take n l)
all_take zero l a = tt
all_take (suc n) [] a = tt
all_take (suc n) (x ∷ l) a = (a.0, all_take n l a.1)

all_drop : (n : ℕ) (l : List ℕ) → All Byte l → All Byte (drop n l)
all_drop zero l a = a
all_drop (suc n) [] a = tt
all_drop (suc n) (x ∷ l) a = all_drop n l a.1

all-field : (n at : ℕ) (l : List ℕ) → All Byte l → All Byte (field n at l)
unfolding field
all-field n at l a = all_take n (drop at l) (all_drop at l a)

pub all-to_le : (n x : ℕ) → All Byte (to_le n x)
all-to_le n x = of_bytes (to_le n x) (bytes-to_le n x)

all-joined : {A : Type 0} (f : A → List ℕ) (d : A) (l : List A) → ((i : ℕ) → All Byte (f (get_or l i d))) → All Byte (joined f l)
unfolding joined
all-joined f d [] h = tt
all-joined f d (x ∷ l) h = all_append (f x) (joined f l) (h 0) (all-joined f d l (λ i. h (suc i)))

-- ---- right lengths, as numbers

pub record Lengths (l : Lent) : Type 0 where
  pub desk : length l.desk ≡ 1088
  pub table : length l.table % 64 ≡ 0
  pub shelf : length l.shelf % 64 ≡ 0
  pub slots : 1 ≤ length l.table / 64
  pub slots_most : length l.table / 64 ≤ 16384
  pub entries : 1 ≤ length l.shelf / 64
  pub entries_most : length l.shelf / 64 ≤ 1048576

pub both_true : (a b : Bool) → a && b ≡ true → (a ≡ true) × (b ≡ true)
both_true true b e = (refl, e)
both_true false b e = absurd (false≢true e)

pub to_lengths : (l : Lent) → LengthsRight l → Lengths l
unfolding lengths_right
to_lengths l e =
    let a = both_true (eqb (length l.desk) 1088) _ e in
    let b = both_true (slots_right (length l.table) 16384) (slots_right (length l.shelf) 1048576) a.1 in
    let c = both_true (eqb (length l.table % 64) 0) _ b.0 in
    let d = both_true (leb 1 (length l.table / 64)) _ c.1 in
    let f = both_true (eqb (length l.shelf % 64) 0) _ b.1 in
    let g = both_true (leb 1 (length l.shelf / 64)) _ f.1 in
    record {
      desk = eqb-true _ _ a.0;
      table = eqb-true _ _ c.0;
      shelf = eqb-true _ _ f.0;
      slots = leb-true _ _ d.0;
      slots_most = leb-true _ _ d.1;
      entries = leb-true _ _ g.0;
      entries_most = leb-true _ _ g.1;
    }

pub to_right : (l : Lent) → LentBytes l → LengthsRight l → Right l
to_right l a e =
    let n = to_lengths l e in
    record { desk_length = n.desk; table_whole = n.table; shelf_whole = n.shelf; desk_bytes = to_bytes l.desk a.desk; table_bytes = to_bytes l.table a.table; shelf_bytes = to_bytes l.shelf a.shelf }

-- ---- from bytes

pub count-read : (b : List ℕ) → length (slots_of b) ≡ length b / 64
count-read b = length-each (slot_at b) 0 (length b / 64)

slots_sized : (b : List ℕ) → All Byte b → (i : ℕ) → SlotSized (get_or (slots_of b) i free)
slots_sized b a i = go (dec_lt i (length b / 64))
  where
    go : Dec (i < length b / 64) → SlotSized (get_or (slots_of b) i free)
    go (yes h) =
        rw (at_each (slot_at b) (length b / 64) i free h)
        (record {
          number = u32_small b (i * 64) (to_bytes b a) (omega arith);
          body = length-field 52 (i * 64 + 4) b (omega arith);
          mask = u64_small b (i * 64 + 56) (to_bytes b a) (omega arith);
          bytes = all-field 52 (i * 64 + 4) b a;
        })
    go (no h) = rw (get_or-eq_default (slots_of b) free {n = i} (rw (count-read b) (omega arith))) free_sized

cards_sized : (d : List ℕ) → All Byte d → length d ≡ 1088 → (i : ℕ) → CardSized (get_or (each (card_at d) 0 64) i idle)
cards_sized d a e i = go (dec_lt i 64)
  where
    b : Bytes d
    b = to_bytes d a

    go : Dec (i < 64) → CardSized (get_or (each (card_at d) 0 64) i idle)
    go (yes h) =
        rw (at_each (card_at d) 64 i idle h)
        (record {
          ticket = u32_small d (64 + i * 16) b (omega arith);
          place = u32_small d (64 + i * 16 + 4) b (omega arith);
          handed = u32_small d (64 + i * 16 + 8) b (omega arith);
          rest = u32_small d (64 + i * 16 + 12) b (omega arith);
        })
    go (no h) = rw (get_or-eq_default (each (card_at d) 0 64) idle {n = i} (rw (length-each (card_at d) 0 64) (omega arith))) idle_sized

pub read_sized : (l : Lent) → LentBytes l → length l.desk ≡ 1088 → Sized (read l)
unfolding store_of desk_of
read_sized l a e =
    record {
      desk = record {
        n = u32_small l.desk 0 b (omega arith);
        t = u32_small l.desk 4 b (omega arith);
        r = u32_small l.desk 8 b (omega arith);
        last = u32_small l.desk 12 b (omega arith);
        stable = u64_small l.desk 16 b (omega arith);
        active = u64_small l.desk 24 b (omega arith);
        local = u64_small l.desk 32 b (omega arith);
        zeros = length-field 24 40 l.desk (omega arith);
        bytes = all-field 24 40 l.desk a.desk;
        all = length-each (card_at l.desk) 0 64;
        cards = cards_sized l.desk a.desk e;
      };
      table = slots_sized l.table a.table;
      shelf = slots_sized l.shelf a.shelf;
    }
  where
    b : Bytes l.desk
    b = to_bytes l.desk a.desk

-- ---- to bytes

pub length-slots : (l : List Slot) → ((i : ℕ) → SlotSized (get_or l i free)) → length (joined slot_bytes l) ≡ length l * 64
length-slots l z = length-joined slot_bytes 64 free l (λ i. length-slot (get_or l i free) (z i).body)

pub length-desk : (d : Desk) → DeskSized d → length (desk_bytes d) ≡ 1088
unfolding desk_bytes
length-desk d z =
    length-append (to_le 4 d.n) _
    ∙ omega (
      arith,
      length-to_le 4 d.n,
      length-append (to_le 4 d.t) (to_le 4 d.r ++ (to_le 4 d.last ++ (masks_bytes d.masks ++ (d.zeros ++ joined card_bytes d.cards)))),
      length-to_le 4 d.t,
      length-append (to_le 4 d.r) (to_le 4 d.last ++ (masks_bytes d.masks ++ (d.zeros ++ joined card_bytes d.cards))),
      length-to_le 4 d.r,
      length-append (to_le 4 d.last) (masks_bytes d.masks ++ (d.zeros ++ joined card_bytes d.cards)),
      length-to_le 4 d.last,
      length-append (masks_bytes d.masks) (d.zeros ++ joined card_bytes d.cards),
      length-append (to_le 8 d.masks.stable) (to_le 8 d.masks.active ++ to_le 8 d.masks.local),
      length-append (to_le 8 d.masks.active) (to_le 8 d.masks.local),
      length-to_le 8 d.masks.stable,
      length-to_le 8 d.masks.active,
      length-to_le 8 d.masks.local,
      length-append d.zeros (joined card_bytes d.cards),
      z.zeros,
      length-joined card_bytes 16 idle d.cards (λ i. length-card (get_or d.cards i idle)),
      z.all,
    )

slot-bytes : (s : Slot) → SlotSized s → All Byte (slot_bytes s)
slot-bytes s z = all_append (version s) (to_le 8 s.mask) (all_append (to_le 4 s.number) s.body (all-to_le 4 s.number) z.bytes) (all-to_le 8 s.mask)

card-bytes : (c : Card) → All Byte (card_bytes c)
card-bytes c =
    all_append (to_le 4 c.ticket.0) _ (all-to_le 4 c.ticket.0)
    (all_append (to_le 4 c.place) _ (all-to_le 4 c.place) (all_append (to_le 4 c.handed) (to_le 4 c.rest) (all-to_le 4 c.handed) (all-to_le 4 c.rest)))

desk-bytes : (d : Desk) → DeskSized d → All Byte (desk_bytes d)
unfolding desk_bytes
desk-bytes d z =
    all_append (to_le 4 d.n) _ (all-to_le 4 d.n) (all_append (to_le 4 d.t) _ (all-to_le 4 d.t) (all_append (to_le 4 d.r) _ (all-to_le 4 d.r) (all_append (to_le 4 d.last) _ (all-to_le 4 d.last)
    (all_append (masks_bytes d.masks) _
    (all_append (to_le 8 d.masks.stable) _ (all-to_le 8 d.masks.stable) (all_append (to_le 8 d.masks.active) (to_le 8 d.masks.local) (all-to_le 8 d.masks.active) (all-to_le 8 d.masks.local)))
    (all_append d.zeros _ z.bytes (all-joined card_bytes idle d.cards (λ i. card-bytes (get_or d.cards i idle))))))))

pub written-bytes : (S : Store) → Sized S → LentBytes (written S)
unfolding written
written-bytes S z =
    record {
      desk = desk-bytes S.desk z.desk;
      table = all-joined slot_bytes free S.table (λ i. slot-bytes (get_or S.table i free) (z.table i));
      shelf = all-joined slot_bytes free S.shelf (λ i. slot-bytes (get_or S.shelf i free) (z.shelf i));
    }
