-- A walk over a table and then a shelf, from the walks over each.
use mathlib.Core.Logic.{◌⊎◌, inl, inr}
use mathlib.Core.Path.{◌≡◌, refl, sym, ap, ◌∙◌}
use mathlib.Core.Bool.{Bool}
use mathlib.Core.List.{List}
use Prim.Native.Nat.{ℕ, suc, ◌+◌, ◌-◌, ◌/◌, ◌≤◌, ◌<◌, min}
use native.Mathlib.Nat.{zero-add}
use native.Mathlib.Omega.{arith}
use native.Mathlib.Decide.{dec_lt}
use lib.ListN.{length}
use borrow.Author.Tests.{lt-ltb, le-ltb}
use Rattle.rules.specs.Calls.{first}
use Rattle.rules.specs.Memory.{slots_of}
use Rattle.rules.proofs.First.{first_shift, first-same, first-least, first_split_found, first_split_none}
use Rattle.joins.proofs.Slots.{count}
use Rattle.looks.specs.declared.walk.Seen.{Seen}
use Rattle.looks.specs.declared.walk.Walked.{Walked}
use Rattle.looks.specs.Walked.{waits_in, walked, stop_of, walked_of, hit_in_by, hit_in}
use Rattle.looks.proofs.Walked.{hits, spends, ends}

same-walked : {s : Seen} {n n' l l' : ℕ} → n ≡ n' → l ≡ l' → walked s n l ≡ walked s n' l'
same-walked x y = cc

-- ---- the three ways that a walk ends

data Ways (h : ℕ → Bool) (from b end : ℕ) : Type 0 where
  hit : stop_of h from b end < min (from + b) end → Ways h from b end
  spent : min (from + b) end ≤ stop_of h from b end → from + b < end → Ways h from b end
  ended : min (from + b) end ≤ stop_of h from b end → end ≤ from + b → Ways h from b end

ways : (h : ℕ → Bool) (from b end : ℕ) → Ways h from b end
ways h from b end = go (dec_lt (stop_of h from b end) (min (from + b) end)) (dec_lt (from + b) end)
  where
    go : Dec (stop_of h from b end < min (from + b) end) → Dec (from + b < end) → Ways h from b end
    go (yes x) y = hit x
    go (no x) (yes y) = spent (omega arith) y
    go (no x) (no y) = ended (omega arith) (omega arith)

-- ---- the looks of a walk

-- at most the places to the end, and at most the budget
looks_most : (h : ℕ → Bool) (from b end : ℕ) → from ≤ end → ((walked_of h from b end).looks ≤ end - from) × ((walked_of h from b end).looks ≤ b)
looks_most h from b end there = go (ways h from b end)
  where
    go : Ways h from b end → ((walked_of h from b end).looks ≤ end - from) × ((walked_of h from b end).looks ≤ b)
    go (hit x) = let e = ap (λ (w : Walked). w.looks) (hits h from b end x) in (omega (arith, e), omega (arith, e))
    go (spent x y) = let e = ap (λ (w : Walked). w.looks) (spends h from b end x y) in (omega (arith, e), omega (arith, e))
    go (ended x y) = let e = ap (λ (w : Walked). w.looks) (ends h from b end x y) in (omega (arith, e), omega (arith, e))

looks_places : (h : ℕ → Bool) (from b end : ℕ) → from ≤ end → (walked_of h from b end).looks ≤ end - from
looks_places h from b end there = (looks_most h from b end there).0

pub looks-budget : (h : ℕ → Bool) (from b end : ℕ) → from ≤ end → (walked_of h from b end).looks ≤ b
looks-budget h from b end there = (looks_most h from b end there).1

-- ---- a walk that is d looks and then another walk, c places on

module _ (h g : ℕ → Bool) (from b end f m e c d : ℕ) (at : from + d ≡ c + f) (eb : b ≡ d + m) (ee : end ≡ c + e) (within : f ≤ e) (es : stop_of h from b end ≡ c + stop_of g f m e) where
  on_from : walked_of h from b end ≡ walked (walked_of g f m e).seen (d + (walked_of g f m e).looks) (walked_of g f m e).left
  on_from = go (ways g f m e)
    where
      more : Walked → Walked
      more w = walked w.seen (d + w.looks) w.left

      go : Ways g f m e → walked_of h from b end ≡ more (walked_of g f m e)
      go (hit x) =
          let n : suc (stop_of h from b end) - from ≡ d + (suc (stop_of g f m e) - f) = omega (arith, first-least g f (min (f + m) e - f)) in
          let l : b - (suc (stop_of h from b end) - from) ≡ m - (suc (stop_of g f m e) - f) = omega arith in
          hits h from b end (omega arith) ∙ same-walked n l ∙ sym (ap more (hits g f m e x))
      go (spent x y) = spends h from b end (omega arith) (omega arith) ∙ ap (λ (n : ℕ). walked Seen.Spent n 0) eb ∙ sym (ap more (spends g f m e x y))
      go (ended x y) =
          let n : end - from ≡ d + (e - f) = omega arith in
          let l : b - (end - from) ≡ m - (e - f) = omega arith in
          ends h from b end (omega arith) (omega arith) ∙ same-walked n l ∙ sym (ap more (ends g f m e x y))

-- ---- table first, then shelf

-- the walk w of a table, gone on over a shelf of R entries
abbrev pub onto : (ℕ → Bool) → ℕ → Walked → Walked
onto hs R w = walked (walked_of hs 0 w.left R).seen (w.looks + (walked_of hs 0 w.left R).looks) (walked_of hs 0 w.left R).left

-- the places of a walk past the table, d in it and at most m after it
reach : (T R place b d m : ℕ) → place + d ≡ T → b ≡ d + m → min (place + b) (T + R) - place ≡ d + (min (0 + m) R - 0)
reach T R place b d m x y = omega arith

module _ (h ht hs : ℕ → Bool) (T R place b : ℕ) (table : (q : ℕ) → q < T → h q ≡ ht q) (shelf : (k : ℕ) → h (T + k) ≡ hs k) (fits : place ≤ T + R) where
  -- a search on the shelf
  later : (f n : ℕ) → first h (T + f) n ≡ T + first hs f n
  later f n = first_shift h T f n ∙ ap (λ (k : ℕ). T + k) (first-same (λ j. h (T + j)) hs f n (λ j x y. shelf j))

  pub from-shelf : T ≤ place → walked_of h place b (T + R) ≡ walked_of hs (place - T) b R
  from-shelf g =
      let z : place ≡ T + (place - T) = omega arith in
      let n : min (place + b) (T + R) - place ≡ min (place - T + b) R - (place - T) = omega arith in
      let es : stop_of h place b (T + R) ≡ T + stop_of hs (place - T) b R = ap (λ (k : ℕ). first h place k) n ∙ ap (λ (k : ℕ). first h k (min (place - T + b) R - (place - T))) z ∙ later (place - T) (min (place - T + b) R - (place - T)) in
      on_from h hs place b (T + R) (place - T) b R T 0 (omega arith) (omega arith) refl (omega arith) es ∙ ap (λ (k : ℕ). walked (walked_of hs (place - T) b R).seen k (walked_of hs (place - T) b R).left) (zero-add (walked_of hs (place - T) b R).looks)

  module _ (within : place < T) where
    -- a search in the table
    sooner : (n : ℕ) → place + n ≤ T → first h place n ≡ first ht place n
    sooner n g = first-same h ht place n (λ j x y. table j (omega arith))

    -- where the whole search stops: in the table, or past it
    found : stop_of ht place b T < min (place + b) T → stop_of h place b (T + R) ≡ stop_of ht place b T
    found g =
        let e : first h place (min (place + b) T - place) ≡ stop_of ht place b T = sooner (min (place + b) T - place) (omega arith) in
        let n : min (place + b) (T + R) - place ≡ min (place + b) T - place + (min (place + b) (T + R) - min (place + b) T) = omega arith in
        ap (λ (k : ℕ). first h place k) n ∙ first_split_found h place (min (place + b) T - place) (min (place + b) (T + R) - min (place + b) T) (omega arith) ∙ e

    missed : (d m : ℕ) → place + d ≡ T → b ≡ d + m → T ≤ first ht place d → stop_of h place b (T + R) ≡ T + stop_of hs 0 m R
    missed d m x y g =
        let e : first h place d ≡ first ht place d = sooner d (omega arith) in
        let u : place + d ≡ T + 0 = omega arith in
        ap (λ (j : ℕ). first h place j) (reach T R place b d m x y) ∙ first_split_none h place d (min (0 + m) R - 0) (omega arith) ∙ ap (λ (j : ℕ). first h j (min (0 + m) R - 0)) u ∙ later 0 (min (0 + m) R - 0)

    pub table_stops : ((walked_of ht place b T).seen ≡ Seen.End → ⊥) → walked_of h place b (T + R) ≡ walked_of ht place b T
    table_stops s = go (ways ht place b T)
      where
        go : Ways ht place b T → walked_of h place b (T + R) ≡ walked_of ht place b T
        go (hit x) = hits h place b (T + R) (omega (arith, found x)) ∙ ap (λ (q : ℕ). walked Seen.Record (suc q - place) (b - (suc q - place))) (found x) ∙ sym (hits ht place b T x)
        go (spent x y) =
            let n : min (place + b) (T + R) - place ≡ min (place + b) T - place = omega arith in
            let e : stop_of h place b (T + R) ≡ stop_of ht place b T = ap (λ (k : ℕ). first h place k) n ∙ sooner (min (place + b) T - place) (omega arith) in
            spends h place b (T + R) (omega arith) (omega arith) ∙ sym (spends ht place b T x y)
        go (ended x y) = absurd (s (ap (λ (w : Walked). w.seen) (ends ht place b T x y)))

    pub table_end : (walked_of ht place b T).seen ≡ Seen.End → walked_of h place b (T + R) ≡ onto hs R (walked_of ht place b T)
    table_end s = go (ways ht place b T)
      where
        go : Ways ht place b T → walked_of h place b (T + R) ≡ onto hs R (walked_of ht place b T)
        go (hit x) = let z : ◌≡◌ {A = ℕ} 0 1 = cc (ap (λ (w : Walked). w.seen) (hits ht place b T x)) in absurd (omega arith)
        go (spent x y) = let z : ◌≡◌ {A = ℕ} 0 1 = cc (ap (λ (w : Walked). w.seen) (spends ht place b T x y)) in absurd (omega arith)
        go (ended x y) =
            let k : min (place + b) T - place ≡ T - place = omega arith in
            let n : stop_of ht place b T ≡ first ht place (T - place) = ap (λ (j : ℕ). first ht place j) k in
            let z : T ≤ first ht place (T - place) = omega arith in
            on_from h hs place b (T + R) 0 (b - (T - place)) R T (T - place) (omega arith) (omega arith) refl (omega arith) (missed (T - place) (b - (T - place)) (omega arith) (omega arith) z) ∙ sym (ap (onto hs R) (ends ht place b T x y))

-- ---- the bytes of a table and a shelf

module _ (stable p : ℕ) (t s : List ℕ) (place b : ℕ) where
  in_table : (q : ℕ) → q < length t / 64 → hit_in stable p (slots_of t) (slots_of s) q ≡ waits_in stable p (slots_of t) q
  unfolding hit_in_by
  in_table q g = rw (lt-ltb q (length (slots_of t)) (omega (arith, count t))) refl

  on_shelf_lem : (k : ℕ) → hit_in stable p (slots_of t) (slots_of s) (length t / 64 + k) ≡ waits_in 0 p (slots_of s) k
  unfolding hit_in_by
  on_shelf_lem k =
      let z : length t / 64 + k - length (slots_of t) ≡ k = omega (arith, count t) in
      rw (le-ltb (length t / 64 + k) (length (slots_of t)) (omega (arith, count t))) (ap (waits_in 0 p (slots_of s)) z)

  module _ (fits : place ≤ length t / 64 + length s / 64) where
    pub seek_shelf : {w : Walked} → length t / 64 ≤ place → w ≡ walked_of (waits_in 0 p (slots_of s)) (place - length t / 64) b (length s / 64) → w ≡ walked_of (hit_in stable p (slots_of t) (slots_of s)) place b (length t / 64 + length s / 64)
    seek_shelf g e = e ∙ sym (from-shelf (hit_in stable p (slots_of t) (slots_of s)) (waits_in stable p (slots_of t)) (waits_in 0 p (slots_of s)) (length t / 64) (length s / 64) place b in_table on_shelf_lem fits g)

    module _ (within : place < length t / 64) {w : Walked} (e : w ≡ walked_of (waits_in stable p (slots_of t)) place b (length t / 64)) where
      not_both : (w.seen ≡ Seen.Record) ⊎ (w.seen ≡ Seen.Spent) → w.seen ≡ Seen.End → ⊥
      not_both (inl x) z = cc
      not_both (inr x) z = cc

      seen_as : {x : Seen} → (walked_of (waits_in stable p (slots_of t)) place b (length t / 64)).seen ≡ x → w.seen ≡ x
      seen_as y = ap (λ (v : Walked). v.seen) e ∙ y

      pub seek_stops : (w.seen ≡ Seen.Record) ⊎ (w.seen ≡ Seen.Spent) → w ≡ walked_of (hit_in stable p (slots_of t) (slots_of s)) place b (length t / 64 + length s / 64)
      seek_stops y = e ∙ sym (table_stops (hit_in stable p (slots_of t) (slots_of s)) (waits_in stable p (slots_of t)) (waits_in 0 p (slots_of s)) (length t / 64) (length s / 64) place b in_table on_shelf_lem fits within (λ z. not_both y (seen_as z)))

      module _ {v : Walked} (e' : v ≡ walked_of (waits_in 0 p (slots_of s)) 0 w.left (length s / 64)) where
        pub seek_looks : w.looks + v.looks ≤ length t / 64 + length s / 64
        seek_looks = omega (arith, ap (λ (x : Walked). x.looks) e, ap (λ (x : Walked). x.looks) e', looks_places (waits_in stable p (slots_of t)) place b (length t / 64) (omega arith), looks_places (waits_in 0 p (slots_of s)) 0 w.left (length s / 64) (omega arith))

        pub seek_end : w.seen ≡ Seen.End → walked v.seen (w.looks + v.looks) v.left ≡ walked_of (hit_in stable p (slots_of t) (slots_of s)) place b (length t / 64 + length s / 64)
        seek_end y =
            ap (λ (x : Walked). walked x.seen (w.looks + x.looks) x.left) e'
            ∙ ap (onto (waits_in 0 p (slots_of s)) (length s / 64)) e
            ∙ sym (table_end (hit_in stable p (slots_of t) (slots_of s)) (waits_in stable p (slots_of t)) (waits_in 0 p (slots_of s)) (length t / 64) (length s / 64) place b in_table on_shelf_lem fits within (sym (ap (λ (v : Walked). v.seen) e) ∙ y))
