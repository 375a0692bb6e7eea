-- One look of a scan that has passed every place so far.
use mathlib.Core.Path.{◌≡◌, refl, sym, ◌∙◌}
use mathlib.Core.Bool.{Bool, true, false}
use mathlib.Core.Option.{none, some}
use Prim.Native.Nat.{ℕ, suc, ◌+◌, ◌-◌, ◌≤◌, ◌<◌}
use native.Mathlib.Omega.{arith}
use native.Mathlib.Decide.{ℕ_discrete}
use lib.Dec.{ltb, leb, eqb}
use lib.ListN.{length, get_or, set}
use lib.Seq.{get_or-set_same, set-set, set-get_or}
use borrow.Author.Tests.{ltb-true, ltb-false, lt-ltb, le-ltb, le-leb, lt-leb, eq-eqb, ne_eqb}
use Rattle.rules.specs.declared.Card.{Card}
use Rattle.rules.specs.Calls.{slot_in, card_of}
use Rattle.rules.specs.Memory.{card, idle, Store, T, R}
use Rattle.rules.specs.Next.{in_table, on_shelf, table_look, shelf_look, look_at, look, at_end}
use Rattle.joins.specs.Walks.{hit_by, hit, crossed, moved_to, took_by, took, here_by, here}

-- ---- the end of the table walk, on the way from place a over a table of t slots

module _ (a t q : ℕ) where
  crossed_not_yet : a ≤ q → q < t → crossed a t q ≡ false
  crossed_not_yet up h = rw (lt-ltb a t (omega arith), lt-leb t q h) refl

  crossed_now : a ≤ q → q < t → crossed a t (suc q) ≡ eqb (suc q) t
  crossed_now up h = rw (lt-ltb a t (omega arith)) (go (ℕ_discrete (suc q) t))
    where
      go : Dec (suc q ≡ t) → leb t (suc q) ≡ eqb (suc q) t
      go (yes last) = le-leb t (suc q) (omega arith) ∙ sym (eq-eqb (suc q) t last)
      go (no last) = lt-leb t (suc q) (omega arith) ∙ sym (ne_eqb (suc q) t last)

  crossed-before : t ≤ q → crossed a t (suc q) ≡ crossed a t q
  crossed-before h = rw (le-leb t q h, le-leb t (suc q) (omega arith)) refl

crossed_nowhere : (a t : ℕ) → crossed a t a ≡ false
crossed_nowhere a t = go (ltb a t) refl
  where
    go : (b : Bool) → ltb a t ≡ b → crossed a t a ≡ false
    go true e = rw (e, lt-leb t a (ltb-true a t e)) refl
    go false e = rw e refl

-- ---- the scan at p, at place q, with nothing handed out on the way

abbrev pub passed : Store → ℕ → ℕ → Store
passed S p q = moved_to S p q (card_of S p).handed S.table S.shelf

-- its card
abbrev card_now : Store → ℕ → ℕ → Card
card_now S p q = card (card_of S p).ticket.0 q (card_of S p).handed (card_of S p).rest

-- before the first look
pub passed_none : (S : Store) (p : ℕ) → passed S p (card_of S p).place ≡ S
unfolding moved_to
passed_none S p = rw (crossed_nowhere (card_of S p).place (T S), set-get_or S.desk.cards p idle) refl

module _ (S : Store) (p : ℕ) (on_desk : p < length S.desk.cards) where
  card_passed : (q : ℕ) → get_or (set S.desk.cards p (card_now S p q)) p idle ≡ card_now S p q
  card_passed q = get_or-set_same S.desk.cards p (card_now S p q) idle on_desk

  pub handed_passed : (q : ℕ) → (card_of (passed S p q) p).handed ≡ (card_of S p).handed
  unfolding moved_to
  handed_passed q = rw (card_passed q) refl

  pub end_passed : (q : ℕ) → at_end (passed S p q) p ≡ eqb q (T S + R S)
  unfolding moved_to
  end_passed q = rw (card_passed q) refl

  -- at a slot of the table
  module _ (q : ℕ) (up : (card_of S p).place ≤ q) (inside : q < T S) where
    uncrossed : crossed (card_of S p).place (T S) q ≡ false
    uncrossed = crossed_not_yet (card_of S p).place (T S) q up inside

    crossing : crossed (card_of S p).place (T S) (suc q) ≡ eqb (suc q) (T S)
    crossing = crossed_now (card_of S p).place (T S) q up inside

    look-table : (h : Bool) → in_table S p q ≡ h → look (passed S p q) p ≡ table_look h (passed S p q) p q
    unfolding moved_to look_at
    look-table h e = rw (card_passed q, lt-ltb q (T S) inside, uncrossed, e) refl

    table_miss : table_look false (passed S p q) p q ≡ (passed S p (suc q), none)
    unfolding moved_to table_look
    table_miss = rw (card_passed q, uncrossed, crossing, set-set) refl

    table-hit : table_look true (passed S p q) p q ≡ (took_by true S p q, some (slot_in S.table q))
    unfolding moved_to table_look took_by
    table-hit = rw (card_passed q, uncrossed, crossing, set-set) refl

  -- at an entry of the shelf
  module _ (q : ℕ) (outside : T S ≤ q) where
    crossed_already : crossed (card_of S p).place (T S) (suc q) ≡ crossed (card_of S p).place (T S) q
    crossed_already = crossed-before (card_of S p).place (T S) q outside

    look-shelf : (h : Bool) → on_shelf S p (q - T S) ≡ h → look (passed S p q) p ≡ shelf_look h (passed S p q) p (q - T S)
    unfolding moved_to look_at
    look-shelf h e = rw (card_passed q, le-ltb q (T S) outside, e) refl

    shelf_miss : shelf_look false (passed S p q) p (q - T S) ≡ (passed S p (suc q), none)
    unfolding moved_to shelf_look
    shelf_miss = rw (card_passed q, crossed_already, set-set) refl

    shelf-hit : shelf_look true (passed S p q) p (q - T S) ≡ (took_by false S p q, some (slot_in S.shelf (q - T S)))
    unfolding moved_to shelf_look took_by
    shelf-hit = rw (card_passed q, crossed_already, set-set) refl

  module _ (q : ℕ) (up : (card_of S p).place ≤ q) where
    pub look_miss : hit S p q ≡ false → look (passed S p q) p ≡ (passed S p (suc q), none)
    unfolding hit_by
    look_miss e = go (ltb q (T S)) refl e
      where
        go : (t : Bool) → ltb q (T S) ≡ t → hit_by t S p q ≡ false → look (passed S p q) p ≡ (passed S p (suc q), none)
        go true t e = look-table q up (ltb-true q (T S) t) false e ∙ table_miss q up (ltb-true q (T S) t)
        go false t e = look-shelf q (ltb-false q (T S) t) false e ∙ shelf_miss q (ltb-false q (T S) t)

    pub look_hit : hit S p q ≡ true → look (passed S p q) p ≡ (took S p q, some (here S q))
    unfolding hit_by here_by
    look_hit e = go (ltb q (T S)) refl e
      where
        go : (t : Bool) → ltb q (T S) ≡ t → hit_by t S p q ≡ true → look (passed S p q) p ≡ (took_by t S p q, some (here_by t S q))
        go true t e = look-table q up (ltb-true q (T S) t) true e ∙ table-hit q up (ltb-true q (T S) t)
        go false t e = look-shelf q (ltb-false q (T S) t) true e ∙ shelf-hit q (ltb-false q (T S) t)
