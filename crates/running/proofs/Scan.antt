-- The scan of a ticket, as the calls find it and as the rules do.
use mathlib.Core.Path.{◌≡◌, refl, sym, ap, ◌∙◌}
use mathlib.Core.Bool.{Bool, true, false}
use mathlib.Core.List.{List, []}
use Prim.Native.Nat.{ℕ, ◌+◌, ◌/◌, ◌≤◌, ◌<◌}
use native.Mathlib.Omega.{arith}
use lib.Dec.{eqb}
use lib.ListN.{length}
use borrow.Author.Tests.{eqb-true, eqb-false, lt-ltb, le-ltb}
use Rattle.rules.specs.declared.Card.{Card}
use Rattle.rules.specs.Calls.{card_of, position_of}
use Rattle.rules.specs.Memory.{Store, card_at, store_of}
use Rattle.rules.specs.Refusals.{no_scan}
use Rattle.rules.specs.Sound.{sound}
use Rattle.rules.proofs.First.{first_found}
use Rattle.soundness.proofs.Says.{place_most, handed_most}
use Rattle.settle.proofs.Moves.{card-there}
use Rattle.running.specs.Scan.{Runs, scan_by, scan_of}

module _ (S : Store) (k : ℕ) where
  none_by : (b : Bool) → eqb k 0 ≡ b → scan_by b (position_of S k) ≡ 64 → no_scan S k ≡ true
  none_by true e h = rw e refl
  none_by false e h = rw (e, le-ltb (position_of S k) 64 (omega (arith, h))) refl

  one_by : (b : Bool) → eqb k 0 ≡ b → scan_by b (position_of S k) < 64 → (no_scan S k ≡ false) × (position_of S k ≡ scan_by b (position_of S k)) × (k ≡ 0 → ⊥)
  one_by true e h = absurd (omega arith)
  one_by false e h = (rw (e, lt-ltb (position_of S k) 64 h) refl, refl, eqb-false k 0 e)

-- by the desk's bytes, whatever stands in table and shelf
module _ (d t s : List ℕ) (k : ℕ) where
  pub scan_none : scan_of (store_of d [] []) k ≡ 64 → no_scan (store_of d t s) k ≡ true
  unfolding store_of
  scan_none h = none_by (store_of d t s) k (eqb k 0) refl h

  module _ {p : ℕ} (ep : p ≡ scan_of (store_of d [] []) k) (below : scan_of (store_of d [] []) k < 64) where
    one : (no_scan (store_of d t s) k ≡ false) × (position_of (store_of d t s) k ≡ scan_of (store_of d t s) k) × (k ≡ 0 → ⊥)
    unfolding store_of
    one = one_by (store_of d t s) k (eqb k 0) refl below

    pub scan_one : no_scan (store_of d t s) k ≡ false
    scan_one = one.0

    pub scan_at : position_of (store_of d t s) k ≡ p
    unfolding store_of
    scan_at = one.1 ∙ sym ep

    scan_low : p < 64
    scan_low = omega (arith, ep, below)

    scan_card : (card_at d p).ticket.0 ≡ k
    scan_card =
        let found : eqb (card_of (store_of d t s) p).ticket.0 k ≡ true = rw scan_at at (first_found (λ i. eqb (card_of (store_of d t s) i).ticket.0 k) 0 64 (omega (arith, scan_at, scan_low))) in
        ap (λ (v : Card). v.ticket.0) (sym (card-there d t s p scan_low)) ∙ eqb-true _ _ found

    pub scan_runs : Runs d p
    scan_runs = (scan_low, λ e. one.2 (sym scan_card ∙ e))

-- the card of a running scan
module _ (d t s : List ℕ) (ok : sound (store_of d t s) ≡ true) {p : ℕ} (runs : Runs d p) {c : Card} (ec : c ≡ card_at d p) where
  pub scan_fits : c.place ≤ length t / 64 + length s / 64
  scan_fits = rw ec (place_most d t s ok p runs.0 runs.1)

  pub scan_handed : c.handed ≤ c.place
  scan_handed = rw ec (handed_most d t s ok p runs.0 runs.1)
