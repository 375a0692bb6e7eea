-- What a C host is returned tells the answer, of any machine with demand 1.
use mathlib.Core.Path.{◌≡◌, refl, sym, ap, ◌∙◌, subst}
use mathlib.Core.Bool.{true, false≢true}
use mathlib.Core.List.{List}
use mathlib.Core.Logic.{inl, inr}
use Prim.Native.Nat.{ℕ, ◌+◌, ◌-◌, ◌*◌, ◌/◌, ◌%◌, ◌≤◌, ◌<◌}
use native.Mathlib.Omega.{arith}
use borrow.Author.Tests.{ne_eqb}
use Rattle.demands.specs.DemandOne.{Demand1}
use Rattle.demands.specs.Fits.{OfRefused, OfNext, Fits}
use Rattle.demands.specs.Machine.{Machine, exported}
use Rattle.demands.specs.Packing.{looks_of, handed_of, records_of, entries_of, unless_refused, answer_as, unpacked, NumberTells}
use Rattle.rules.specs.Answers.{Answer, Draw, Shown, number, value, packed}
use Rattle.rules.specs.Refusals.{Call, Change, Reading, called}
use Rattle.demands.proofs.page.DemandOne.{demand_1}

-- a number and a value that C can tell apart, from which the call's answer is read
record Read (c : Call) (a : Answer) : Type 0 where
  small : number a < 256
  worth : value a < 72057594037927936
  tells : answer_as c (number a) (value a) ≡ a

-- ---- 0

looks_of_lem : (l h : ℕ) → l < 2097152 → looks_of (l + 2097152 * h) ≡ l
looks_of_lem l h n = omega arith

handed_of_lem : (l h : ℕ) → l < 2097152 → handed_of (l + 2097152 * h) ≡ h
handed_of_lem l h n = omega arith

records_of_lem : (r e : ℕ) → r < 32768 → records_of (r + 32768 * e) ≡ r
records_of_lem r e n = omega arith

entries_of_lem : (r e : ℕ) → r < 32768 → entries_of (r + 32768 * e) ≡ e
entries_of_lem r e n = omega arith

only_looks : (l : ℕ) → l < 2097152 → looks_of l ≡ l
only_looks l n = omega arith

-- ---- a refusal

unless_refused_lem : (k : ℕ) (a : Answer) → 1 ≤ k → unless_refused k a ≡ Answer.refused k
unless_refused_lem k a h = rw (ne_eqb k 0 (λ e. omega arith)) refl

refused-told : (c : Call) → exported c ≡ true → (k : ℕ) → 1 ≤ k → k ≤ 11 → answer_as c k 0 ≡ Answer.refused k
unfolding answer_as
refused-told (Call.opening n) x k h m = unless_refused_lem k _ h
refused-told (Call.change c) x k h m = unless_refused_lem k _ h
refused-told Call.begin x k h m = unless_refused_lem k _ h
refused-told (Call.next t b o) x k h m = rw (ne_eqb k 100 (λ e. omega arith), ne_eqb k 101 (λ e. omega arith)) (unless_refused_lem k _ h)
refused-told (Call.reading (Reading.peek t)) x k h m = absurd (false≢true x)
refused-told (Call.reading Reading.tally) x k h m = unless_refused_lem k _ h
refused-told (Call.reading (Reading.owed t)) x k h m = unless_refused_lem k _ h

refused-read : (c : Call) → exported c ≡ true → (a : Answer) → OfRefused a → Read c a
unfolding number value
refused-read c x a w =
    subst (Read c) (sym w.3) (record { small = omega (arith, w.2); worth = omega arith; tells = refused-told c x w.0 w.1 w.2 })

-- ---- next

module _ (t b : ℕ) (o : List ℕ) where
  abbrev asked : Call
  asked = Call.next t b o

  in_hand_read : (l r : ℕ) → l < 2097152 → l + r ≡ b → Read asked (Answer.drew (Draw.in_hand l r))
  unfolding number value answer_as
  in_hand_read l r h e = record { small = omega arith; worth = omega arith; tells = λ i. (Answer.drew (Draw.in_hand (only_looks l h i) (left i))) }
    where
      left : b - looks_of l ≡ r
      left = omega (arith, only_looks l h)

  finished-read : (l r n : ℕ) → l < 2097152 → n ≤ 1064960 → l + r ≡ b → Read asked (Answer.drew (Draw.finished l r n))
  unfolding number value answer_as
  finished-read l r n h m e = record { small = omega arith; worth = omega arith; tells = λ i. (Answer.drew (Draw.finished (looks_of_lem l n h i) (left i) (handed_of_lem l n h i))) }
    where
      left : b - looks_of (l + 2097152 * n) ≡ r
      left = omega (arith, looks_of_lem l n h)

  next-read : (a : Answer) → OfNext b a → Read asked a
  unfolding number value answer_as
  next-read a (inl w) = subst (Read asked) (sym w.5) (in_hand_read w.0 w.1 (omega (arith, w.3)) w.4)
  next-read a (inr (inl w)) = subst (Read asked) (sym w.1) (record { small = omega arith; worth = omega (arith, w.0); tells = ap (λ (z : ℕ). Answer.drew (Draw.paused z)) (only_looks b (omega (arith, w.0))) })
  next-read a (inr (inr w)) = subst (Read asked) (sym w.6) (finished-read w.0 w.1 w.2 (omega (arith, w.3)) w.4 w.5)

-- ---- every call of the C host

read_off : (c : Call) → exported c ≡ true → (a : Answer) → Fits c a → Read c a
unfolding number value answer_as Fits
read_off (Call.opening n) x a (inl w) = subst (Read (Call.opening n)) (sym w) (record { small = omega arith; worth = omega arith; tells = refl })
read_off (Call.opening n) x a (inr w) = refused-read (Call.opening n) x a w
read_off (Call.change (Change.insert i b)) x a (inl w) = subst (Read (Call.change (Change.insert i b))) (sym w) (record { small = omega arith; worth = omega arith; tells = refl })
read_off (Call.change (Change.insert i b)) x a (inr w) = refused-read (Call.change (Change.insert i b)) x a w
read_off (Call.change (Change.modify i b)) x a (inl w) = subst (Read (Call.change (Change.modify i b))) (sym w) (record { small = omega arith; worth = omega arith; tells = refl })
read_off (Call.change (Change.modify i b)) x a (inr w) = refused-read (Call.change (Change.modify i b)) x a w
read_off (Call.change (Change.delete i)) x a (inl w) = subst (Read (Call.change (Change.delete i))) (sym w) (record { small = omega arith; worth = omega arith; tells = refl })
read_off (Call.change (Change.delete i)) x a (inr w) = refused-read (Call.change (Change.delete i)) x a w
read_off Call.begin x a (inl w) = subst (Read Call.begin) (sym w.3) (record { small = omega arith; worth = omega (arith, w.2); tells = refl })
read_off Call.begin x a (inr w) = refused-read Call.begin x a w
read_off (Call.next t b o) x a (inl w) = next-read t b o a w
read_off (Call.next t b o) x a (inr w) = refused-read (Call.next t b o) x a w
read_off (Call.reading (Reading.peek t)) x a w = absurd (false≢true x)
read_off (Call.reading Reading.tally) x a (inl w) =
    subst (Read (Call.reading Reading.tally)) (sym w.4) (record {
      small = omega arith;
      worth = omega (arith, w.2, w.3);
      tells = λ i. (Answer.shown (Shown.counted (records_of_lem w.0 w.1 (omega (arith, w.2)) i) (entries_of_lem w.0 w.1 (omega (arith, w.2)) i)));
    })
read_off (Call.reading Reading.tally) x a (inr w) = refused-read (Call.reading Reading.tally) x a w
read_off (Call.reading (Reading.owed t)) x a (inl w) = subst (Read (Call.reading (Reading.owed t))) (sym w.2) (record { small = omega arith; worth = omega (arith, w.1); tells = refl })
read_off (Call.reading (Reading.owed t)) x a (inr w) = refused-read (Call.reading (Reading.owed t)) x a w

-- ---- "answer + 256 × value"

two_parts : (k v : ℕ) → k < 256 → ((k + 256 * v) % 256 ≡ k) × ((k + 256 * v) / 256 ≡ v)
two_parts k v h = (omega arith, omega arith)

-- an answer that fits is read off its number
pub unpacks : (c : Call) → exported c ≡ true → (a : Answer) → Fits c a → unpacked c (packed a) ≡ a
unfolding packed
unpacks c x a f =
    let r = read_off c x a f in
    let p = two_parts (number a) (value a) r.small in
    (λ i. answer_as c (p.0 i) (p.1 i)) ∙ r.tells

packs : (c : Call) → exported c ≡ true → (a : Answer) → Fits c a → packed a < 18446744073709551616
unfolding packed
packs c x a f = let r = read_off c x a f in omega (arith, r.small, r.worth)

pub number-tells : (M : Machine) → Demand1 M → NumberTells M
number-tells M d =
    record {
      of64 = λ l c x a w. packs c x (M l c).answer (d.fits l c a w);
      tells = λ l c x a w. unpacks c x (M l c).answer (d.fits l c a w);
      apart = λ l m c x a b w e. sym (unpacks c x (M l c).answer (d.fits l c a w)) ∙ ap (unpacked c) e ∙ unpacks c x (M m c).answer (d.fits m c b w);
    }

pub our_numbers_tell : NumberTells called
our_numbers_tell = number-tells called demand_1
