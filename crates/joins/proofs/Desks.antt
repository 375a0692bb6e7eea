-- The desk that bytes spell after a write: the last ticket, the masks, a card.
use mathlib.Core.Path.{◌≡◌, refl, sym, ap, ◌∙◌}
use mathlib.Core.Logic.{◌⊎◌, inl, inr}
use mathlib.Core.List.{List, [], ◌++◌, append_assoc}
use Prim.Native.Nat.{ℕ, ◌+◌, ◌*◌, ◌^◌, ◌≤◌, ◌<◌}
use native.Mathlib.Nat.{add-zero}
use native.Mathlib.Omega.{arith}
use native.Mathlib.Decide.{dec_lt}
use lib.ListN.{length, set, length-append}
use lib.Seq.{take_at, drop_at, take_all}
use Rattle.rules.specs.declared.Card.{Card}
use Rattle.rules.specs.Bytes.{le, to_le, field, u32_at, u64_at}
use Rattle.rules.specs.Masks.{Masks, masks}
use Rattle.rules.specs.Memory.{Desk, desk, card, idle, each, card_at, desk_of, card_bytes, masks_bytes}
use Rattle.rules.specs.Next.{desk_with}
use Rattle.rules.proofs.Bytes.{length-to_le, le_to_le}
use Rattle.rules.proofs.Each.{each_same, each_set}
use Rattle.layout.specs.Puts.{put, put32, put64}
use Rattle.layout.proofs.Fields.{put-put, field-put-same, field-put-before, field-put-after, field_put_in}
use Rattle.layout.specs.Laws.{length-put}
use Rattle.joins.proofs.Slots.{apart}

-- the desk with another last ticket; with other masks
abbrev pub with_last : Desk → ℕ → Desk
with_last D g = desk D.n D.t D.r g D.masks D.zeros D.cards

abbrev pub with_masks : Desk → Masks → Desk
with_masks D m = desk D.n D.t D.r D.last m D.zeros D.cards

-- ---- a write ahead of the cards

module _ (d : List ℕ) (at : ℕ) (vs : List ℕ) (h : length d ≡ 1088) (ahead : at + length vs ≤ 64) where
  pub cards-same : each (card_at (put d at vs)) 0 64 ≡ each (card_at d) 0 64
  unfolding u32_at
  cards-same =
      each_same (card_at d) (card_at (put d at vs)) 64 idle
      (λ j q.
      let off : (o : ℕ) → o + 4 ≤ 16 → field 4 (64 + j * 16 + o) (put d at vs) ≡ field 4 (64 + j * 16 + o) d = λ o z. field-put-after d at vs 4 (64 + j * 16 + o) (omega arith) (omega arith) in
      rw (rw (add-zero (64 + j * 16)) at (off 0 (omega arith)), off 4 (omega arith), off 8 (omega arith), off 12 (omega arith)) refl)

module _ (d : List ℕ) (h : length d ≡ 1088) where
  pub last-put : (g : ℕ) → g < 4294967296 → desk_of (put32 d 12 g) ≡ with_last (desk_of d) g
  unfolding desk_of put32 u32_at u64_at
  last-put g q =
      let n : length (to_le 4 g) ≡ 4 = length-to_le 4 g in
      let lo : (w i : ℕ) → i + w ≤ 12 → field w i (put d 12 (to_le 4 g)) ≡ field w i d = λ w i e. field-put-before d 12 (to_le 4 g) w i e (omega arith) in
      let hi : (w i : ℕ) → 16 ≤ i → field w i (put d 12 (to_le 4 g)) ≡ field w i d = λ w i e. field-put-after d 12 (to_le 4 g) w i (omega arith) (omega arith) in
      rw (
        cards-same d 12 (to_le 4 g) h (omega arith),
        lo 4 0 (omega arith),
        lo 4 4 (omega arith),
        lo 4 8 (omega arith),
        hi 8 16 (omega arith),
        hi 8 24 (omega arith),
        hi 8 32 (omega arith),
        hi 24 40 (omega arith),
        field-put-same d 12 (to_le 4 g) 4 (sym n) (omega arith),
        le_to_le 4 g q,
      ) refl

-- ---- the masks

abbrev pub Small64 : Masks → Type 0
Small64 m = (m.stable < 2 ^ 64) × (m.active < 2 ^ 64) × (m.local < 2 ^ 64)

pub length-masks : (m : Masks) → length (masks_bytes m) ≡ 24
length-masks m = simp (length-append, length-to_le) refl

-- three masks one behind another
pub masks_puts : (d : List ℕ) (m : Masks) → 40 ≤ length d → put64 (put64 (put64 d 16 m.stable) 24 m.active) 32 m.local ≡ put d 16 (masks_bytes m)
unfolding put64
masks_puts d m h =
    let a : length (to_le 8 m.stable) ≡ 8 = length-to_le 8 m.stable in
    let b : length (to_le 8 m.active) ≡ 8 = length-to_le 8 m.active in
    let c : length (to_le 8 m.local) ≡ 8 = length-to_le 8 m.local in
    let n : length (to_le 8 m.stable ++ to_le 8 m.active) ≡ 16 = length-append (to_le 8 m.stable) (to_le 8 m.active) ∙ omega arith in
    rw (put-put d 16 (to_le 8 m.stable) (to_le 8 m.active) 24 (omega arith) (omega arith), put-put d 16 (to_le 8 m.stable ++ to_le 8 m.active) (to_le 8 m.local) 32 (omega arith) (omega arith), append_assoc) refl

-- a number inside what was written, and one at its end
module _ (w : ℕ) (a : List ℕ) (o : ℕ) (e : length a ≡ o) (v : ℕ) (small : v < 256 ^ w) where
  pub inside : (b : List ℕ) → le (field w o (a ++ (to_le w v ++ b))) ≡ v
  unfolding field
  inside b = rw (drop_at a (to_le w v ++ b) o e, take_at (to_le w v) b w (length-to_le w v)) (le_to_le w v small)

  pub at_end_lem : le (field w o (a ++ to_le w v)) ≡ v
  unfolding field
  at_end_lem = rw (drop_at a (to_le w v) o e, take_all w (to_le w v) (omega (arith, length-to_le w v))) (le_to_le w v small)

masks_back : (m : Masks) → Small64 m → masks (le (field 8 0 (masks_bytes m))) (le (field 8 8 (masks_bytes m))) (le (field 8 16 (masks_bytes m))) ≡ m
masks_back m q =
    let s : List ℕ = to_le 8 m.stable in
    let a : List ℕ = to_le 8 m.active in
    let l : List ℕ = to_le 8 m.local in
    let n : length (s ++ a) ≡ 16 = length-append s a ∙ omega (arith, length-to_le 8 m.stable, length-to_le 8 m.active) in
    rw (inside 8 [] 0 refl m.stable q.0 (a ++ l), inside 8 s 8 (length-to_le 8 m.stable) m.active q.1 l, ← append_assoc s a l, at_end_lem 8 (s ++ a) 16 n m.local q.2) refl

pub masks-put : (d : List ℕ) (m : Masks) → length d ≡ 1088 → Small64 m → desk_of (put d 16 (masks_bytes m)) ≡ with_masks (desk_of d) m
unfolding desk_of u32_at u64_at
masks-put d m h q =
    let n : length (masks_bytes m) ≡ 24 = length-masks m in
    let lo : (w i : ℕ) → i + w ≤ 16 → field w i (put d 16 (masks_bytes m)) ≡ field w i d = λ w i e. field-put-before d 16 (masks_bytes m) w i e (omega arith) in
    let on : (o : ℕ) → o + 8 ≤ 24 → field 8 (16 + o) (put d 16 (masks_bytes m)) ≡ field 8 o (masks_bytes m) = λ o e. field_put_in d 16 (masks_bytes m) 8 o (omega arith) (omega arith) in
    rw (
      cards-same d 16 (masks_bytes m) h (omega arith),
      lo 4 0 (omega arith),
      lo 4 4 (omega arith),
      lo 4 8 (omega arith),
      lo 4 12 (omega arith),
      on 0 (omega arith),
      on 8 (omega arith),
      on 16 (omega arith),
      field-put-after d 16 (masks_bytes m) 24 40 (omega arith) (omega arith),
    ) (ap (λ (x : Masks). desk (u32_at d 0) (u32_at d 4) (u32_at d 8) (u32_at d 12) x (field 24 40 d) (each (card_at d) 0 64)) (masks_back m q))

-- ---- a card

abbrev pub Small32 : Card → Type 0
Small32 c = (c.ticket.0 < 4294967296) × (c.place < 4294967296) × (c.handed < 4294967296) × (c.rest < 4294967296)

pub length-card : (c : Card) → length (card_bytes c) ≡ 16
length-card c = simp (length-append, length-to_le) refl

-- four numbers one behind another
pub card_puts : (d : List ℕ) (at : ℕ) (c : Card) → at + 16 ≤ length d → put32 (put32 (put32 (put32 d at c.ticket.0) (at + 4) c.place) (at + 8) c.handed) (at + 12) c.rest ≡ put d at (card_bytes c)
unfolding put32
card_puts d at c h =
    let t : List ℕ = to_le 4 c.ticket.0 in
    let p : List ℕ = to_le 4 c.place in
    let g : List ℕ = to_le 4 c.handed in
    let nt : length t ≡ 4 = length-to_le 4 c.ticket.0 in
    let np : length p ≡ 4 = length-to_le 4 c.place in
    let ng : length g ≡ 4 = length-to_le 4 c.handed in
    let nr : length (to_le 4 c.rest) ≡ 4 = length-to_le 4 c.rest in
    let n2 : length (t ++ p) ≡ 8 = length-append t p ∙ omega arith in
    let n3 : length ((t ++ p) ++ g) ≡ 12 = length-append (t ++ p) g ∙ omega arith in
    rw (put-put d at t p (at + 4) (omega arith) (omega arith), put-put d at (t ++ p) g (at + 8) (omega arith) (omega arith), put-put d at ((t ++ p) ++ g) (to_le 4 c.rest) (at + 12) (omega arith) (omega arith))
    (ap (put d at) (append_assoc (t ++ p) g (to_le 4 c.rest) ∙ append_assoc t p (g ++ to_le 4 c.rest)))

card_back : (c : Card) → Small32 c → card (le (field 4 0 (card_bytes c))) (le (field 4 4 (card_bytes c))) (le (field 4 8 (card_bytes c))) (le (field 4 12 (card_bytes c))) ≡ c
card_back c q =
    let t : List ℕ = to_le 4 c.ticket.0 in
    let p : List ℕ = to_le 4 c.place in
    let g : List ℕ = to_le 4 c.handed in
    let r : List ℕ = to_le 4 c.rest in
    let nt : length t ≡ 4 = length-to_le 4 c.ticket.0 in
    let np : length p ≡ 4 = length-to_le 4 c.place in
    let ng : length g ≡ 4 = length-to_le 4 c.handed in
    let n2 : length (t ++ p) ≡ 8 = length-append t p ∙ omega arith in
    let n3 : length ((t ++ p) ++ g) ≡ 12 = length-append (t ++ p) g ∙ omega arith in
    let x : le (field 4 8 (t ++ (p ++ (g ++ r)))) ≡ c.handed = rw (← append_assoc t p (g ++ r)) (inside 4 (t ++ p) 8 n2 c.handed q.2 r) in
    let y : le (field 4 12 (t ++ (p ++ (g ++ r)))) ≡ c.rest = rw (← append_assoc t p (g ++ r), ← append_assoc (t ++ p) g r) (at_end_lem 4 ((t ++ p) ++ g) 12 n3 c.rest q.3) in
    rw (inside 4 [] 0 refl c.ticket.0 q.0 (p ++ (g ++ r)), inside 4 t 4 nt c.place q.1 (g ++ r), x, y) refl

module _ (d : List ℕ) (p : ℕ) (c : Card) (h : length d ≡ 1088) (small : Small32 c) (there : p < 64) where
  far : (j : ℕ) → (j ≡ p → ⊥) → (o : ℕ) → o + 4 ≤ 16 → (64 + j * 16 + o + 4 ≤ 64 + p * 16) ⊎ (64 + p * 16 + length (card_bytes c) ≤ 64 + j * 16 + o)
  far j e o q = go (dec_lt j p)
    where
      go : Dec (j < p) → (64 + j * 16 + o + 4 ≤ 64 + p * 16) ⊎ (64 + p * 16 + length (card_bytes c) ≤ 64 + j * 16 + o)
      go (yes z) = inl (omega arith)
      go (no z) = inr (omega (arith, length-card c))

  whole : 64 + p * 16 + length (card_bytes c) ≤ length d
  whole = omega (arith, length-card c)

  cards-put : each (card_at (put d (64 + p * 16) (card_bytes c))) 0 64 ≡ set (each (card_at d) 0 64) p c
  unfolding u32_at
  cards-put =
      each_set (card_at d) (card_at (put d (64 + p * 16) (card_bytes c))) 64 p idle there
      (λ j z e.
      let off : (o : ℕ) → o + 4 ≤ 16 → field 4 (64 + j * 16 + o) (put d (64 + p * 16) (card_bytes c)) ≡ field 4 (64 + j * 16 + o) d = λ o q. apart 4 (64 + j * 16 + o) d (64 + p * 16) (card_bytes c) whole (far j e o q) in
      rw (rw (add-zero (64 + j * 16)) at (off 0 (omega arith)), off 4 (omega arith), off 8 (omega arith), off 12 (omega arith)) refl)
      ∙ ap (set (each (card_at d) 0 64) p)
      (let on : (o : ℕ) → o + 4 ≤ 16 → field 4 (64 + p * 16 + o) (put d (64 + p * 16) (card_bytes c)) ≡ field 4 o (card_bytes c) = λ o q. field_put_in d (64 + p * 16) (card_bytes c) 4 o (omega (arith, length-card c)) whole in
      rw (rw (add-zero (64 + p * 16)) at (on 0 (omega arith)), on 4 (omega arith), on 8 (omega arith), on 12 (omega arith)) (card_back c small))

  pub card-put : desk_of (put d (64 + p * 16) (card_bytes c)) ≡ desk_with (desk_of d) (desk_of d).masks p c
  unfolding desk_of u32_at u64_at
  card-put =
      let lo : (w i : ℕ) → i + w ≤ 64 → field w i (put d (64 + p * 16) (card_bytes c)) ≡ field w i d = λ w i e. field-put-before d (64 + p * 16) (card_bytes c) w i (omega arith) (omega arith) in
      rw (cards-put, lo 4 0 (omega arith), lo 4 4 (omega arith), lo 4 8 (omega arith), lo 4 12 (omega arith), lo 8 16 (omega arith), lo 8 24 (omega arith), lo 8 32 (omega arith), lo 24 40 (omega arith)) refl

-- ---- the masks and a card, and with them the last ticket

module _ (d : List ℕ) (m : Masks) (p : ℕ) (c : Card) (h : length d ≡ 1088) (sm : Small64 m) (sc : Small32 c) (there : p < 64) where
  length_masked : length (put d 16 (masks_bytes m)) ≡ 1088
  length_masked = length-put d 16 (masks_bytes m) (omega (arith, length-masks m)) ∙ h

  pub desk-put : desk_of (put (put d 16 (masks_bytes m)) (64 + p * 16) (card_bytes c)) ≡ desk_with (desk_of d) m p c
  desk-put = card-put (put d 16 (masks_bytes m)) p c length_masked sc there ∙ ap (λ (D : Desk). desk_with D D.masks p c) (masks-put d m h sm)

  pub length-desk-put : length (put (put d 16 (masks_bytes m)) (64 + p * 16) (card_bytes c)) ≡ 1088
  length-desk-put = length-put (put d 16 (masks_bytes m)) (64 + p * 16) (card_bytes c) (omega (arith, length-card c, length_masked)) ∙ length_masked

pub begin-put : (d : List ℕ) (g : ℕ) (m : Masks) (p : ℕ) (c : Card) → length d ≡ 1088 → g < 4294967296 → Small64 m → Small32 c → p < 64
    → desk_of (put (put (put32 d 12 g) 16 (masks_bytes m)) (64 + p * 16) (card_bytes c)) ≡ desk_with (with_last (desk_of d) g) m p c
unfolding put32
begin-put d g m p c h sg sm sc there =
    let n : length (put d 12 (to_le 4 g)) ≡ 1088 = length-put d 12 (to_le 4 g) (omega (arith, length-to_le 4 g)) ∙ h in
    desk-put (put d 12 (to_le 4 g)) m p c n sm sc there ∙ ap (λ (D : Desk). desk_with D m p c) (last-put d h g sg)
