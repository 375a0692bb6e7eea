-- Laws of `field` and `put`, over any width and offset.
use mathlib.Core.Path.{◌≡◌, refl, ap, ◌∙◌}
use mathlib.Core.List.{List, ◌++◌, append_assoc, append-nil}
use Prim.Native.Nat.{ℕ, ◌+◌, ◌-◌, ◌≤◌, ◌<◌}
use native.Mathlib.Nat.{zero-add}
use native.Mathlib.Omega.{arith}
use lib.ListN.{length, take, drop, length-append, length-drop}
use lib.Seq.{ext_get_or, get_or-take, get_or-drop, drop-append-add, take-append-le, drop-append-le, take_at, drop_at, drop-drop, length-take-le, take-append_seam, drop-length}
use Rattle.rules.specs.Bytes.{field}
use Rattle.layout.specs.Puts.{put}

pub put-put : (l : List ℕ) (at : ℕ) (a b : List ℕ) (at' : ℕ) → at' ≡ at + length a → at + length a + length b ≤ length l → put (put l at a) at' b ≡ put l at (a ++ b)
unfolding put
put-put l at a b at' e h =
    let head : List ℕ = take at l ++ a in
    let rest : List ℕ = drop (at + length a) l in
    let n : length head ≡ at' = simp (length-append, length-take-le at l (omega arith)) (omega arith) in
    let t : take at' (take at l ++ (a ++ rest)) ≡ head = rw (← append_assoc (take at l) a rest) (take_at head rest at' n) in
    let q : at + length a + length b ≡ at + (length a + length b) = omega arith in
    let d : drop (at' + length b) (take at l ++ (a ++ rest)) ≡ drop (at + (length a + length b)) l =
    rw (← append_assoc (take at l) a rest, ← drop-drop (length b) at' (head ++ rest), drop_at head rest at' n, drop-drop (length b) (at + length a) l, q) refl in
    rw (t, d, length-append, append_assoc, append_assoc) refl

-- ---- reading after a write

pub field-put-same : (l : List ℕ) (at : ℕ) (vs : List ℕ) (n : ℕ) → n ≡ length vs → at + length vs ≤ length l → field n at (put l at vs) ≡ vs
unfolding field put
field-put-same l at vs n e h =
    rw (drop_at (take at l) (vs ++ drop (at + length vs) l) at (length-take-le at l (omega arith)), e) (take-append_seam vs (drop (at + length vs) l))

pub field-put-before : (l : List ℕ) (at : ℕ) (vs : List ℕ) (n i : ℕ) → i + n ≤ at → at ≤ length l → field n i (put l at vs) ≡ field n i l
unfolding field put
field-put-before l at vs n i h k =
    let a : length (take at l) ≡ at = length-take-le at l k in
    let b : length (drop i (take at l)) ≡ at - i = length-drop i (take at l) ∙ rw a refl in
    rw (drop-append-le i (take at l) (vs ++ drop (at + length vs) l) (omega arith), take-append-le n (drop i (take at l)) (vs ++ drop (at + length vs) l) (omega arith))
    (ext_get_or 0 (take n (drop i (take at l))) (take n (drop i l))
    (rw (length-take-le n (drop i (take at l)) (omega arith), length-take-le n (drop i l) (rw (length-drop i l) (omega arith))) refl)
    (λ j q. let z : j < n = rw (length-take-le n (drop i (take at l)) (omega arith)) at q in
    rw (get_or-take n (drop i (take at l)) j 0 z, get_or-take n (drop i l) j 0 z, get_or-drop i (take at l) j 0, get_or-drop i l j 0, get_or-take at l (i + j) 0 (omega arith)) refl))

pub field-put-after : (l : List ℕ) (at : ℕ) (vs : List ℕ) (n i : ℕ) → at + length vs ≤ i → at + length vs ≤ length l → field n i (put l at vs) ≡ field n i l
unfolding field put
field-put-after l at vs n i h k =
    let head : List ℕ = take at l ++ vs in
    let rest : List ℕ = drop (at + length vs) l in
    let a : length head ≡ at + length vs = length-append (take at l) vs ∙ rw (length-take-le at l (omega arith)) refl in
    let e : i ≡ length head + (i - (at + length vs)) = omega arith in
    let f : at + length vs + (i - (at + length vs)) ≡ i = omega arith in
    rw (← append_assoc (take at l) vs rest) (ap (λ (m : ℕ). take n (drop m (head ++ rest))) e ∙ ap (λ (r : List ℕ). take n r) (drop-append-add head rest (i - (at + length vs)) ∙ drop-drop (i - (at + length vs)) (at + length vs) l ∙ rw f refl))

-- a part of what was written
pub field_put_in : (l : List ℕ) (at : ℕ) (vs : List ℕ) (n i : ℕ) → i + n ≤ length vs → at + length vs ≤ length l → field n (at + i) (put l at vs) ≡ field n i vs
unfolding field put
field_put_in l at vs n i h k =
    let w : List ℕ = vs ++ drop (at + length vs) l in
    rw (← drop-drop i at (take at l ++ w), drop_at (take at l) w at (length-take-le at l (omega arith)), drop-append-le i vs (drop (at + length vs) l) (omega arith))
    (take-append-le n (drop i vs) (drop (at + length vs) l) (rw (length-drop i vs) (omega arith)))

-- a whole buffer written over
pub put_whole : (l vs : List ℕ) → length vs ≡ length l → put l 0 vs ≡ vs
unfolding put
put_whole l vs e = rw (zero-add (length vs), e, drop-length l) (append-nil vs)

-- k bytes lent as n, and written over
pub part-written : (l : List ℕ) (at k n : ℕ) → n ≡ k → at + k ≤ length l → {vs ws : List ℕ} → vs ≡ ws → length ws ≡ k → take at l ++ (vs ++ drop n (drop at l)) ≡ put l at ws
unfolding put
part-written l at k n e h {vs} {ws} ev m = rw (ev, drop-drop n at l, e, m) refl
