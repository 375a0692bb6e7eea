-- A walk of the code is a walk of the rule, with any budget.
use mathlib.Core.Path.{◌≡◌, refl, sym, ap, ◌∙◌}
use mathlib.Core.Bool.{Bool, true, false}
use mathlib.Core.List.{List}
use Prim.Native.Nat.{ℕ, suc, ◌+◌, ◌-◌, ◌/◌, ◌≤◌, ◌<◌, min}
use native.Mathlib.Omega.{arith}
use lib.Dec.{ltb}
use lib.ListN.{length}
use borrow.Author.Tests.{ltb-true, ltb-false}
use Rattle.rules.specs.declared.Card.{Card}
use Rattle.rules.specs.Bytes.{u64_at}
use Rattle.rules.specs.Calls.{slot_in, card_of}
use Rattle.rules.specs.Memory.{T, R, slots_of, card_at, desk_of, store_of}
use Rattle.rules.proofs.Each.{length-each}
use Rattle.joins.specs.Walks.{hit_by, hit, reach, stop_at}
use Rattle.rules.proofs.First.{first-least, first-same}
use Rattle.joins.proofs.Search.{waiting-shelf}
use Rattle.joins.proofs.Slots.{count}
use Rattle.looks.specs.declared.walk.Seen.{Seen}
use Rattle.looks.specs.declared.walk.Walked.{Walked}
use Rattle.looks.specs.Walked.{stop_of, walked_by, walked_of, hit_in_by, hit_in}
use Rattle.settle.proofs.Moves.{card-there}

-- ---- what each answer of a walk says

module _ (q from b end : ℕ) where
  by_record : (x y : Bool) → (walked_by x y q from b end).seen ≡ Seen.Record → x ≡ true
  unfolding walked_by
  by_record true y e = refl
  by_record false true e = let z : ◌≡◌ {A = ℕ} 0 1 = cc in absurd (omega arith)
  by_record false false e = let z : ◌≡◌ {A = ℕ} 0 1 = cc in absurd (omega arith)

  by_spent : (x y : Bool) → (walked_by x y q from b end).seen ≡ Seen.Spent → (x ≡ false) × (y ≡ true)
  unfolding walked_by
  by_spent true y e = let z : ◌≡◌ {A = ℕ} 0 1 = cc in absurd (omega arith)
  by_spent false true e = (refl, refl)
  by_spent false false e = let z : ◌≡◌ {A = ℕ} 0 1 = cc in absurd (omega arith)

  by_end : (x y : Bool) → (walked_by x y q from b end).seen ≡ Seen.End → (x ≡ false) × (y ≡ false)
  unfolding walked_by
  by_end true y e = let z : ◌≡◌ {A = ℕ} 0 1 = cc in absurd (omega arith)
  by_end false true e = let z : ◌≡◌ {A = ℕ} 0 1 = cc in absurd (omega arith)
  by_end false false e = (refl, refl)

module _ (h : ℕ → Bool) (from b end : ℕ) {w : Walked} (ew : w ≡ walked_of h from b end) where
  pub record_says : w.seen ≡ Seen.Record → (stop_of h from b end < min (from + b) end) × (w.looks ≡ suc (stop_of h from b end) - from) × (w.left ≡ b - (suc (stop_of h from b end) - from))
  unfolding walked_by
  record_says e =
      let x : ltb (stop_of h from b end) (min (from + b) end) ≡ true =
      by_record (stop_of h from b end) from b end _ _ (ap (λ (v : Walked). v.seen) (sym ew) ∙ e) in
      (ltb-true _ _ x, ap (λ (v : Walked). v.looks) ew ∙ rw x refl, ap (λ (v : Walked). v.left) ew ∙ rw x refl)

  pub spent_says : w.seen ≡ Seen.Spent → (min (from + b) end ≤ stop_of h from b end) × (from + b < end) × (w.looks ≡ b)
  unfolding walked_by
  spent_says e =
      let x = by_spent (stop_of h from b end) from b end _ _ (ap (λ (v : Walked). v.seen) (sym ew) ∙ e) in
      (ltb-false _ _ x.0, ltb-true _ _ x.1, ap (λ (v : Walked). v.looks) ew ∙ rw (x.0, x.1) refl)

  pub end_says : w.seen ≡ Seen.End → (min (from + b) end ≤ stop_of h from b end) × (end ≤ from + b) × (w.looks ≡ end - from) × (w.left ≡ b - (end - from))
  unfolding walked_by
  end_says e =
      let x = by_end (stop_of h from b end) from b end _ _ (ap (λ (v : Walked). v.seen) (sym ew) ∙ e) in
      (ltb-false _ _ x.0, ltb-false _ _ x.1, ap (λ (v : Walked). v.looks) ew ∙ rw (x.0, x.1) refl, ap (λ (v : Walked). v.left) ew ∙ rw (x.0, x.1) refl)

  least : from ≤ stop_of h from b end
  least = first-least h from (min (from + b) end - from)

  module _ (e : w.seen ≡ Seen.Record) where
    pub record_some : 0 < w.looks
    record_some = omega (arith, (record_says e).1, least)

    pub record_fits : from + w.looks ≤ end
    record_fits = omega (arith, (record_says e).0, (record_says e).1, least)

    pub record_at_lem : from + w.looks - 1 ≡ stop_of h from b end
    record_at_lem = omega (arith, (record_says e).1, least)

  pub spent_fits : w.seen ≡ Seen.Spent → from + w.looks ≤ end
  spent_fits e = omega (arith, (spent_says e).1, (spent_says e).2)

  pub end_at : w.seen ≡ Seen.End → from ≤ end → from + w.looks ≡ end
  end_at e fits = omega (arith, (end_says e).2)

-- ---- the walk

hits_same : (d t s : List ℕ) {st : ℕ} → st ≡ u64_at d 16 → (p j : ℕ) → hit (store_of d t s) p j ≡ hit_in st p (slots_of t) (slots_of s) j
unfolding store_of desk_of hit_by hit_in_by
hits_same d t s es p j = rw es (go (ltb j (length (slots_of t))))
  where
    go : (x : Bool) → hit_by x (store_of d t s) p j ≡ hit_in_by x (u64_at d 16) p (slots_of t) (slots_of s) j
    go true = refl
    go false = sym (waiting-shelf p (slot_in (slots_of s) (j - length (slots_of t))))

module _ (d t s : List ℕ) where
  pub ends_at : T (store_of d t s) + R (store_of d t s) ≡ length t / 64 + length s / 64
  unfolding store_of
  ends_at = rw (count t, count s) refl

  module _ {p : ℕ} (below : p < 64) where
    pub on_desk_lem : p < length (store_of d t s).desk.cards
    unfolding store_of desk_of
    on_desk_lem = rw (length-each (card_at d) 0 64) below

    module _ {c : Card} (ec : c ≡ card_at d p) where
      pub card_is : card_of (store_of d t s) p ≡ c
      card_is = card-there d t s p below ∙ sym ec

      pub within : c.place ≤ length t / 64 + length s / 64 → (card_of (store_of d t s) p).place ≤ T (store_of d t s) + R (store_of d t s)
      within fits = rw (card_is, ends_at) fits

      pub reach_is : (b : ℕ) → reach (store_of d t s) p b ≡ min (c.place + b) (length t / 64 + length s / 64)
      reach_is b = rw (card_is, ends_at) refl

      pub stop_is : {st : ℕ} → st ≡ u64_at d 16 → (b : ℕ) → stop_at (store_of d t s) p b ≡ stop_of (hit_in st p (slots_of t) (slots_of s)) c.place b (length t / 64 + length s / 64)
      stop_is {st} es b =
          rw (card_is, ends_at)
          (first-same (hit (store_of d t s) p) (hit_in st p (slots_of t) (slots_of s)) c.place (min (c.place + b) (length t / 64 + length s / 64) - c.place) (λ j lo hi. hits_same d t s es p j))
