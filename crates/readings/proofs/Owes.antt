-- The ways out of tally and owed, each from what its steps ensure to the rule.
use mathlib.Core.Path.{◌≡◌, refl, ap}
use mathlib.Core.Bool.{◌&&◌}
use mathlib.Core.List.{List, []}
use Prim.Native.Nat.{ℕ, ◌+◌, ◌/◌, ◌<◌}
use native.Mathlib.Omega.{arith}
use lib.Dec.{eqb}
use lib.ListN.{length}
use Rattle.rules.specs.Answers.{Answer, Shown, refused}
use Rattle.rules.specs.Bytes.{u64_at}
use Rattle.rules.specs.Calls.{in_use, count as count_of, used, owed_by}
use Rattle.rules.specs.Masks.{Masks, bit, off}
use Rattle.rules.specs.Memory.{masks_of, slots_of, desk_of, store_of}
use Rattle.rules.specs.Next.{told}
use Rattle.rules.specs.Refusals.{Call, Reading, step}
use Rattle.joins.specs.Search.{waiting}
use Rattle.joins.proofs.Cases.{owed_none, owed-goes, tally-done}
use Rattle.joins.proofs.Search.{equal_is_off, waiting-shelf, count_same, count_most}
use Rattle.joins.proofs.Slots.{count}
use Rattle.running.specs.Scan.{scan_of}
use Rattle.running.proofs.Scan.{scan_none, scan_one, scan_at}

module _ (d t s : List ℕ) where
  pub tallies : {a b : ℕ} → a ≡ used (slots_of t) → b ≡ used (slots_of s) → told (Answer.shown (Shown.counted a b)) (store_of d t s) [] ≡ step (store_of d t s) (Call.reading Reading.tally)
  unfolding store_of
  tallies ea eb = rw (ea, eb) (tally-done (store_of d t s))

  owed_count : (p : ℕ) {st : ℕ} → st ≡ u64_at d 16 → count_of (waiting st p) (slots_of t) + count_of (waiting 0 p) (slots_of s) ≡ owed_by (store_of d t s) p
  unfolding store_of desk_of
  owed_count p {st} e =
      rw (
        e,
        count_same (waiting (u64_at d 16) p) (λ x. in_use x && eqb (bit x.mask p) (bit (u64_at d 16) p)) (λ x. rw (equal_is_off (u64_at d 16) x.mask p) refl) (slots_of t),
        count_same (waiting 0 p) (λ x. in_use x && off x.mask p) (λ x. waiting-shelf p x) (slots_of s),
      ) refl

  module _ (k : ℕ) where
    pub owes_none : scan_of (store_of d [] []) k ≡ 64 → told (refused 10) (store_of d t s) [] ≡ step (store_of d t s) (Call.reading (Reading.owed k))
    owes_none h = owed_none (store_of d t s) k (scan_none d t s k h)

    pub owes : {p a b f q g r : ℕ} {m : Masks} → p ≡ scan_of (store_of d [] []) k → scan_of (store_of d [] []) k < 64 → m ≡ masks_of d
        → a ≡ count_of (waiting f q) (slots_of t) → (f ≡ m.stable) × (q ≡ p) → b ≡ count_of (waiting g r) (slots_of s) → (g ≡ 0) × (r ≡ p)
        → told (Answer.shown (Shown.owing (a + b))) (store_of d t s) [] ≡ step (store_of d t s) (Call.reading (Reading.owed k))
    owes {p} ep h em ea ef eb eg =
        rw (ea, eb, ef.0, ef.1, eg.0, eg.1, owed_count p (ap (λ (v : Masks). v.stable) em), ← (scan_at d t s k ep h)) (owed-goes (store_of d t s) k (scan_one d t s k ep h))

-- each counts at most what there is
pub owed_fits : (t s : List ℕ) (f p g q : ℕ) {a b : ℕ} → a ≡ count_of (waiting f p) (slots_of t) → b ≡ count_of (waiting g q) (slots_of s) → length t / 64 + length s / 64 < 4294967295 → a + b < 4294967296
owed_fits t s f p g q ea eb few = omega (arith, count_most (waiting f p) (slots_of t), count_most (waiting g q) (slots_of s), count t, count s)
