-- What is written of a store that bytes can spell reads back as that store.
use mathlib.Core.Path.{◌≡◌, refl, sym, ap, ◌∙◌}
use mathlib.Core.List.{List, [], ◌∷◌, ◌++◌}
use Prim.Native.Nat.{ℕ, zero, suc, ◌+◌, ◌*◌, ◌/◌, ◌^◌, ◌≤◌, ◌<◌}
use native.Mathlib.Nat.{add-zero, suc-mul, zero-mul, zero-add}
use native.Mathlib.Omega.{arith}
use lib.ListN.{length, drop, get_or, length-append, length-drop}
use lib.Seq.{take_at, drop-append-add, drop-append-le, take-append-le, ext_get_or}
use Rattle.rules.specs.declared.Card.{Card}
use Rattle.rules.specs.Bytes.{le, to_le, field, u32_at, u64_at}
use Rattle.rules.specs.Memory.{Slot, free, idle, Desk, Store, each, slot_at, slots_of, card_at, desk_of, store_of, read, joined, version, slot_bytes, card_bytes, masks_bytes, desk_bytes, written}
use Rattle.rules.proofs.Bytes.{length-to_le, le_to_le, field-all}
use Rattle.rules.proofs.Each.{length-each, at_each}
use Rattle.stores.proofs.Sizes.{CardSized, SlotSized, DeskSized, Sized}

-- ---- fields of bytes side by side

skip : (n k at : ℕ) (a b : List ℕ) → length a ≡ k → field n (k + at) (a ++ b) ≡ field n at b
unfolding field
skip n k at a b e = rw (← e, drop-append-add a b at) refl

within : (n at : ℕ) (a b : List ℕ) → at + n ≤ length a → field n at (a ++ b) ≡ field n at a
unfolding field
within n at a b h = rw (drop-append-le at a b (omega arith), take-append-le n (drop at a) b (rw (length-drop at a) (omega arith))) refl

front : (n : ℕ) (a b : List ℕ) → length a ≡ n → field n 0 (a ++ b) ≡ a
unfolding field
front n a b e = take_at a b n e

spelt : (n x : ℕ) (b : List ℕ) → x < 256 ^ n → le (field n 0 (to_le n x ++ b)) ≡ x
spelt n x b h = rw (front n (to_le n x) b (length-to_le n x)) (le_to_le n x h)

spelt-last : (n x : ℕ) → x < 256 ^ n → le (field n 0 (to_le n x)) ≡ x
spelt-last n x h = rw (field-all (to_le n x) n (length-to_le n x)) (le_to_le n x h)

-- ---- records of w bytes each

module _ {A : Type 0} (f : A → List ℕ) (w : ℕ) (d : A) where
  pub length-joined : (l : List A) → ((i : ℕ) → length (f (get_or l i d)) ≡ w) → length (joined f l) ≡ length l * w
  unfolding joined
  length-joined [] h = sym (zero-mul w)
  length-joined (x ∷ l) h =
      let e : length (f x) ≡ w = h 0 in
      let r : length (joined f l) ≡ length l * w = length-joined l (λ i. h (suc i)) in
      length-append (f x) (joined f l) ∙ omega (arith, suc-mul (length l) w)

  at_joined : (n o : ℕ) → o + n ≤ w → (l : List A) → ((i : ℕ) → length (f (get_or l i d)) ≡ w) → (i : ℕ) → i < length l → field n (i * w + o) (joined f l) ≡ field n o (f (get_or l i d))
  unfolding joined
  at_joined n o k [] h i q = absurd (omega arith)
  at_joined n o k (x ∷ l) h zero q =
      let e : length (f x) ≡ w = h 0 in
      rw (zero-mul w, zero-add o) (within n o (f x) (joined f l) (omega arith))
  at_joined n o k (x ∷ l) h (suc i) q =
      let z : suc i * w + o ≡ w + (i * w + o) = omega (arith, suc-mul i w) in
      rw z (skip n w (i * w + o) (f x) (joined f l) (h 0) ∙ at_joined n o k l (λ i. h (suc i)) i (omega arith))

-- ---- a slot, a card

pub length-version : (s : Slot) → length s.body ≡ 52 → length (version s) ≡ 56
length-version s e = length-append (to_le 4 s.number) s.body ∙ omega (arith, length-to_le 4 s.number)

pub length-slot : (s : Slot) → length s.body ≡ 52 → length (slot_bytes s) ≡ 64
length-slot s e = length-append (version s) (to_le 8 s.mask) ∙ omega (arith, length-to_le 8 s.mask, length-version s e)

pub length-card : (c : Card) → length (card_bytes c) ≡ 16
length-card c =
    length-append (to_le 4 c.ticket.0) _
    ∙ omega (arith, length-to_le 4 c.ticket.0, length-append (to_le 4 c.place) (to_le 4 c.handed ++ to_le 4 c.rest), length-to_le 4 c.place, length-append (to_le 4 c.handed) (to_le 4 c.rest), length-to_le 4 c.handed, length-to_le 4 c.rest)

slot-number : (s : Slot) → SlotSized s → le (field 4 0 (slot_bytes s)) ≡ s.number
slot-number s z = rw (within 4 0 (version s) (to_le 8 s.mask) (omega (arith, length-version s z.body))) (spelt 4 s.number s.body z.number)

slot-body : (s : Slot) → SlotSized s → field 52 4 (slot_bytes s) ≡ s.body
slot-body s z =
    within 52 4 (version s) (to_le 8 s.mask) (omega (arith, length-version s z.body)) ∙ skip 52 4 0 (to_le 4 s.number) s.body (length-to_le 4 s.number) ∙ field-all s.body 52 z.body

slot-mask : (s : Slot) → SlotSized s → le (field 8 56 (slot_bytes s)) ≡ s.mask
slot-mask s z = ap le (skip 8 56 0 (version s) (to_le 8 s.mask) (length-version s z.body)) ∙ spelt-last 8 s.mask z.mask

pub slots_read : (l : List Slot) → ((i : ℕ) → SlotSized (get_or l i free)) → slots_of (joined slot_bytes l) ≡ l
unfolding u32_at u64_at
slots_read l z =
    let w : (i : ℕ) → length (slot_bytes (get_or l i free)) ≡ 64 = λ i. length-slot (get_or l i free) (z i).body in
    let n : length (joined slot_bytes l) / 64 ≡ length l = omega (arith, length-joined slot_bytes 64 free l w) in
    ap (λ (m : ℕ). each (slot_at (joined slot_bytes l)) 0 m) n
    ∙ ext_get_or free (each (slot_at (joined slot_bytes l)) 0 (length l)) l (length-each (slot_at (joined slot_bytes l)) 0 (length l))
    (λ i q.
    let h : i < length l = rw (length-each (slot_at (joined slot_bytes l)) 0 (length l)) at q in
    at_each (slot_at (joined slot_bytes l)) (length l) i free h ∙ one i h (w))
  where
    one : (i : ℕ) → i < length l → ((i : ℕ) → length (slot_bytes (get_or l i free)) ≡ 64) → slot_at (joined slot_bytes l) i ≡ get_or l i free
    one i h w =
        let a : le (field 4 (i * 64) (joined slot_bytes l)) ≡ (get_or l i free).number =
        ap (λ (m : ℕ). le (field 4 m (joined slot_bytes l))) (sym (add-zero (i * 64))) ∙ ap le (at_joined slot_bytes 64 free 4 0 (omega arith) l w i h) ∙ slot-number (get_or l i free) (z i) in
        let b : field 52 (i * 64 + 4) (joined slot_bytes l) ≡ (get_or l i free).body = at_joined slot_bytes 64 free 52 4 (omega arith) l w i h ∙ slot-body (get_or l i free) (z i) in
        let c : le (field 8 (i * 64 + 56) (joined slot_bytes l)) ≡ (get_or l i free).mask = ap le (at_joined slot_bytes 64 free 8 56 (omega arith) l w i h) ∙ slot-mask (get_or l i free) (z i) in
        λ j. record { number = a j; body = b j; mask = c j }

-- ---- the desk

module _ (d : Desk) (z : DeskSized d) where
  -- the bytes from each offset on
  at16 : (n at : ℕ) → field n (16 + at) (desk_bytes d) ≡ field n at (masks_bytes d.masks ++ (d.zeros ++ joined card_bytes d.cards))
  unfolding desk_bytes
  at16 n at =
      let e : 16 + at ≡ 4 + (4 + (4 + (4 + at))) = omega arith in
      ap (λ (m : ℕ). field n m (desk_bytes d)) e
      ∙ skip n 4 (4 + (4 + (4 + at))) (to_le 4 d.n) _ (length-to_le 4 d.n) ∙ skip n 4 (4 + (4 + at)) (to_le 4 d.t) _ (length-to_le 4 d.t)
      ∙ skip n 4 (4 + at) (to_le 4 d.r) _ (length-to_le 4 d.r) ∙ skip n 4 at (to_le 4 d.last) _ (length-to_le 4 d.last)

  length-masks : length (masks_bytes d.masks) ≡ 24
  length-masks =
      length-append (to_le 8 d.masks.stable) _
      ∙ omega (arith, length-to_le 8 d.masks.stable, length-append (to_le 8 d.masks.active) (to_le 8 d.masks.local), length-to_le 8 d.masks.active, length-to_le 8 d.masks.local)

  at40 : (n at : ℕ) → field n (40 + at) (desk_bytes d) ≡ field n at (d.zeros ++ joined card_bytes d.cards)
  at40 n at =
      let e : 40 + at ≡ 16 + (24 + at) = omega arith in
      ap (λ (m : ℕ). field n m (desk_bytes d)) e ∙ at16 n (24 + at) ∙ skip n 24 at (masks_bytes d.masks) _ length-masks

  at64 : (n at : ℕ) → field n (64 + at) (desk_bytes d) ≡ field n at (joined card_bytes d.cards)
  at64 n at =
      let e : 64 + at ≡ 40 + (24 + at) = omega arith in
      ap (λ (m : ℕ). field n m (desk_bytes d)) e ∙ at40 n (24 + at) ∙ skip n 24 at d.zeros _ z.zeros

  in_masks : (n at : ℕ) → at + n ≤ 24 → field n (16 + at) (desk_bytes d) ≡ field n at (masks_bytes d.masks)
  in_masks n at h = at16 n at ∙ within n at (masks_bytes d.masks) _ (omega (arith, length-masks))

  card_at_lem : (o : ℕ) → o + 4 ≤ 16 → (i : ℕ) → i < 64 → field 4 (64 + i * 16 + o) (desk_bytes d) ≡ field 4 o (card_bytes (get_or d.cards i idle))
  card_at_lem o k i h =
      let e : 64 + i * 16 + o ≡ 64 + (i * 16 + o) = omega arith in
      ap (λ (m : ℕ). field 4 m (desk_bytes d)) e ∙ at64 4 (i * 16 + o) ∙ at_joined card_bytes 16 idle 4 o k d.cards (λ i. length-card (get_or d.cards i idle)) i (omega (arith, z.all))

  one-card : (i : ℕ) → i < 64 → card_at (desk_bytes d) i ≡ get_or d.cards i idle
  unfolding u32_at
  one-card i h =
      let c : Card = get_or d.cards i idle in
      let q : CardSized (get_or d.cards i idle) = z.cards i in
      let a : le (field 4 (64 + i * 16) (desk_bytes d)) ≡ c.ticket.0 =
      ap (λ (m : ℕ). le (field 4 m (desk_bytes d))) (sym (add-zero (64 + i * 16))) ∙ ap le (card_at_lem 0 (omega arith) i h) ∙ spelt 4 c.ticket.0 _ q.ticket in
      let b : le (field 4 (64 + i * 16 + 4) (desk_bytes d)) ≡ c.place =
      ap le (card_at_lem 4 (omega arith) i h ∙ skip 4 4 0 (to_le 4 c.ticket.0) _ (length-to_le 4 c.ticket.0)) ∙ spelt 4 c.place _ q.place in
      let e : le (field 4 (64 + i * 16 + 8) (desk_bytes d)) ≡ c.handed =
      ap le (card_at_lem 8 (omega arith) i h ∙ skip 4 4 4 (to_le 4 c.ticket.0) _ (length-to_le 4 c.ticket.0) ∙ skip 4 4 0 (to_le 4 c.place) _ (length-to_le 4 c.place)) ∙ spelt 4 c.handed _ q.handed in
      let f : le (field 4 (64 + i * 16 + 12) (desk_bytes d)) ≡ c.rest =
      ap le (card_at_lem 12 (omega arith) i h ∙ skip 4 4 8 (to_le 4 c.ticket.0) _ (length-to_le 4 c.ticket.0) ∙ skip 4 4 4 (to_le 4 c.place) _ (length-to_le 4 c.place)
      ∙ skip 4 4 0 (to_le 4 c.handed) _ (length-to_le 4 c.handed)) ∙ spelt-last 4 c.rest q.rest in
      λ j. record { ticket = record { 0 = a j }; place = b j; handed = e j; rest = f j }

  all-cards : each (card_at (desk_bytes d)) 0 64 ≡ d.cards
  all-cards =
      ext_get_or idle (each (card_at (desk_bytes d)) 0 64) d.cards (length-each (card_at (desk_bytes d)) 0 64 ∙ sym z.all)
      (λ i q. let h : i < 64 = rw (length-each (card_at (desk_bytes d)) 0 64) at q in at_each (card_at (desk_bytes d)) 64 i idle h ∙ one-card i h)

  n_read : le (field 4 0 (desk_bytes d)) ≡ d.n
  unfolding desk_bytes
  n_read = spelt 4 d.n _ z.n

  t_read : le (field 4 4 (desk_bytes d)) ≡ d.t
  unfolding desk_bytes
  t_read = ap le (skip 4 4 0 (to_le 4 d.n) _ (length-to_le 4 d.n)) ∙ spelt 4 d.t _ z.t

  r_read : le (field 4 8 (desk_bytes d)) ≡ d.r
  unfolding desk_bytes
  r_read = ap le (skip 4 4 4 (to_le 4 d.n) _ (length-to_le 4 d.n) ∙ skip 4 4 0 (to_le 4 d.t) _ (length-to_le 4 d.t)) ∙ spelt 4 d.r _ z.r

  last-read : le (field 4 12 (desk_bytes d)) ≡ d.last
  unfolding desk_bytes
  last-read =
      ap le (skip 4 4 8 (to_le 4 d.n) _ (length-to_le 4 d.n) ∙ skip 4 4 4 (to_le 4 d.t) _ (length-to_le 4 d.t) ∙ skip 4 4 0 (to_le 4 d.r) _ (length-to_le 4 d.r)) ∙ spelt 4 d.last _ z.last

  pub desk-read : desk_of (desk_bytes d) ≡ d
  unfolding desk_of u32_at u64_at
  desk-read =
      let s : le (field 8 16 (desk_bytes d)) ≡ d.masks.stable = ap le (in_masks 8 0 (omega arith)) ∙ spelt 8 d.masks.stable _ z.stable in
      let v : le (field 8 24 (desk_bytes d)) ≡ d.masks.active = ap le (in_masks 8 8 (omega arith) ∙ skip 8 8 0 (to_le 8 d.masks.stable) _ (length-to_le 8 d.masks.stable)) ∙ spelt 8 d.masks.active _ z.active in
      let l : le (field 8 32 (desk_bytes d)) ≡ d.masks.local =
      ap le (in_masks 8 16 (omega arith) ∙ skip 8 8 8 (to_le 8 d.masks.stable) _ (length-to_le 8 d.masks.stable) ∙ skip 8 8 0 (to_le 8 d.masks.active) _ (length-to_le 8 d.masks.active))
      ∙ spelt-last 8 d.masks.local z.local in
      let y : field 24 40 (desk_bytes d) ≡ d.zeros = at40 24 0 ∙ front 24 d.zeros _ z.zeros in
      λ j. record { n = n_read j; t = t_read j; r = r_read j; last = last-read j; masks = record { stable = s j; active = v j; local = l j }; zeros = y j; cards = all-cards j }

pub read-written : (S : Store) → Sized S → read (written S) ≡ S
unfolding store_of written
read-written S z j = record { desk = desk-read S.desk z.desk j; table = slots_read S.table z.table j; shelf = slots_read S.shelf z.shelf j }
