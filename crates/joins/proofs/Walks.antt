-- Next as one search.
use mathlib.Core.Path.{◌≡◌, refl, sym, ap, ◌∙◌}
use mathlib.Core.Bool.{true, false}
use mathlib.Core.Option.{Option, none, some}
use mathlib.Core.List.{List}
use Prim.Native.Nat.{ℕ, zero, suc, ◌+◌, ◌-◌, ◌≤◌, ◌<◌}
use native.Mathlib.Nat.{add-suc, suc-add, add-zero, zero-add}
use native.Mathlib.Omega.{arith}
use lib.ListN.{length}
use borrow.Author.Tests.{eq-eqb, ne_eqb}
use Rattle.rules.specs.Answers.{Answer, Draw}
use Rattle.rules.specs.Calls.{card_of}
use Rattle.rules.specs.Memory.{Slot, Store, T, R, version}
use Rattle.rules.specs.Next.{told, look, at_end, finish, walk}
use Rattle.rules.proofs.Walk.{walk_stop, walk-rest, walk_on, walk_on_lem}
use Rattle.joins.specs.Walks.{hit, reach, stop_at, moved_to, took, here}
use Rattle.rules.proofs.First.{first-least, first_found, first-before}
use Rattle.joins.proofs.Looks.{passed, passed_none, handed_passed, end_passed, look_miss, look_hit}

-- ---- one more look, by what it meets

module _ (S : Store) (p b l : ℕ) (o : List ℕ) (S' : Store) (more : at_end S p ≡ false) where
  walk_looks : look S p ≡ (S', none) → walk S p (suc b) l o ≡ walk S' p b (suc l) o
  unfolding walk_on
  walk_looks seen = walk_on_lem S p b l o more ∙ ap (λ (x : Store × Option Slot). walk_on x.0 p b l o x.1) seen

  walk_takes : (v : Slot) → look S p ≡ (S', some v) → walk S p (suc b) l o ≡ told (Answer.drew (Draw.in_hand (suc l) b)) S' (version v)
  unfolding walk_on
  walk_takes v seen = walk_on_lem S p b l o more ∙ ap (λ (x : Store × Option Slot). walk_on x.0 p b l o x.1) seen

module _ (S : Store) (p : ℕ) (on_desk : p < length S.desk.cards) where
  not_at_end : (q : ℕ) → q < T S + R S → at_end (passed S p q) p ≡ false
  not_at_end q h = end_passed S p on_desk q ∙ ne_eqb q (T S + R S) (λ (e : q ≡ T S + R S). omega arith)

  -- k places that hand out nothing
  walk-past : (k q b l : ℕ) (o : List ℕ)
      → (card_of S p).place ≤ q
      → q + k ≤ T S + R S
      → ((j : ℕ) → q ≤ j → j < q + k → hit S p j ≡ false)
      → walk (passed S p q) p (k + b) l o ≡ walk (passed S p (q + k)) p b (l + k) o
  walk-past zero q b l o up fits misses = rw (zero-add b, add-zero q, add-zero l) refl
  walk-past (suc k) q b l o up fits misses =
      rw (suc-add k b, add-suc q k, ← suc-add q k, add-suc l k, ← suc-add l k)
      (walk_looks (passed S p q) p (k + b) l o (passed S p (suc q)) (not_at_end q (omega arith)) (look_miss S p on_desk q up (misses q (omega arith) (omega arith)))
      ∙ walk-past k (suc q) b (suc l) o (omega arith) (omega arith) (λ j from to. misses j (omega arith) (omega arith)))

  module _ (b : ℕ) (o : List ℕ) (within : (card_of S p).place ≤ T S + R S) where
    -- from the card's place on to place q, with a budget left of c
    walk_to : (q c : ℕ)
        → (card_of S p).place ≤ q
        → q ≤ T S + R S
        → q ≤ stop_at S p b
        → b ≡ q - (card_of S p).place + c
        → walk S p b 0 o ≡ walk (passed S p q) p c (q - (card_of S p).place) o
    walk_to q c up fits unseen spent =
        let k : ℕ = q - (card_of S p).place in
        let there : (card_of S p).place + k ≡ q = omega arith in
        ap (λ (s : Store). walk s p b 0 o) (sym (passed_none S p))
        ∙ ap (λ (n : ℕ). walk (passed S p (card_of S p).place) p n 0 o) spent
        ∙ walk-past k (card_of S p).place c 0 o (omega arith) (omega arith)
        (λ j from to. first-before (hit S p) (card_of S p).place (reach S p b - (card_of S p).place) j from (omega arith))
        ∙ rw (there, zero-add k) refl

    pub walk-hit : stop_at S p b < reach S p b
        → walk S p b 0 o
        ≡ told (Answer.drew (Draw.in_hand (suc (stop_at S p b) - (card_of S p).place) (b - (suc (stop_at S p b) - (card_of S p).place)))) (took S p (stop_at S p b)) (version (here S (stop_at S p b)))
    walk-hit found = go (stop_at S p b) refl least
      where
        least : (card_of S p).place ≤ stop_at S p b
        least = first-least (hit S p) (card_of S p).place (reach S p b - (card_of S p).place)

        passes : hit S p (stop_at S p b) ≡ true
        passes = first_found (hit S p) (card_of S p).place (reach S p b - (card_of S p).place) (omega (arith, least))

        go : (q : ℕ) → q ≡ stop_at S p b → (card_of S p).place ≤ q → walk S p b 0 o ≡ told (Answer.drew (Draw.in_hand (suc q - (card_of S p).place) (b - (suc q - (card_of S p).place)))) (took S p q) (version (here S q))
        go q e up =
            let z : suc q - (card_of S p).place ≡ suc (q - (card_of S p).place) = omega arith in
            walk_to q (suc (b - (suc q - (card_of S p).place))) up (omega arith) (omega arith) (omega arith)
            ∙ walk_takes (passed S p q) p (b - (suc q - (card_of S p).place)) (q - (card_of S p).place) o (took S p q) (not_at_end q (omega arith)) (here S q)
            (look_hit S p on_desk q up (ap (hit S p) e ∙ passes))
            ∙ ap (λ (n : ℕ). told (Answer.drew (Draw.in_hand n (b - (suc q - (card_of S p).place)))) (took S p q) (version (here S q))) (sym z)

    pub walk-paused : reach S p b ≤ stop_at S p b
        → reach S p b < T S + R S
        → walk S p b 0 o ≡ told (Answer.drew (Draw.paused b)) (moved_to S p ((card_of S p).place + b) (card_of S p).handed S.table S.shelf) o
    walk-paused unseen more =
        let z : (card_of S p).place + b - (card_of S p).place ≡ b = omega arith in
        walk_to ((card_of S p).place + b) 0 (omega arith) (omega arith) (omega arith) (omega arith)
        ∙ walk-rest (passed S p ((card_of S p).place + b)) p ((card_of S p).place + b - (card_of S p).place) o (not_at_end ((card_of S p).place + b) (omega arith))
        ∙ rw z refl

    pub walk-finished : reach S p b ≤ stop_at S p b
        → reach S p b ≡ T S + R S
        → walk S p b 0 o
        ≡ told (Answer.drew (Draw.finished (T S + R S - (card_of S p).place) (b - (T S + R S - (card_of S p).place)) (card_of S p).handed))
        (finish (moved_to S p (T S + R S) (card_of S p).handed S.table S.shelf) p) o
    walk-finished unseen all =
        walk_to (T S + R S) (b - (T S + R S - (card_of S p).place)) within (omega arith) (omega arith) (omega arith)
        ∙ walk_stop (passed S p (T S + R S)) p (b - (T S + R S - (card_of S p).place)) (T S + R S - (card_of S p).place) o
        (end_passed S p on_desk (T S + R S) ∙ eq-eqb (T S + R S) (T S + R S) refl)
        ∙ rw (handed_passed S p on_desk (T S + R S)) refl
