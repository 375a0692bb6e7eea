-- Demand 1: "Every call comes back with an answer, for all lent bytes and all numbers. A bad length, a desk at odds with itself, an
-- unknown record or an unknown ticket is refused by its number in document 01, and no refused call changes a byte of any lent buffer."
-- That a call comes back is that a machine is a total function.
use Rattle.std.specs.Prelude.{◌≡◌, true, ℕ, length}
use Rattle.std.proofs.Math.Option.{none, some}
use Rattle.demands.specs.Fits.{Fits}
use Rattle.rules.specs.Passed.{Passed, Well, LentBytes, LengthsRight}
use Rattle.demands.specs.Machine.{Machine}
use Rattle.rules.specs.Answers.{Answer, number}
use Rattle.rules.specs.Memory.{Lent, read}
use Rattle.rules.specs.Refusals.{Call, Reply, first_of, refusals, refused_as, out_of}
use Rattle.rules.specs.Sound.{sound}

-- no byte of any buffer has moved
pub record Untouched (l : Lent) (c : Call) (r : Reply) : Type 0 where
  pub buffers : r.after ≡ l
  pub hand_out : r.out ≡ out_of c

pub record SameLengths (l m : Lent) : Type 0 where
  pub desk : length m.desk ≡ length l.desk
  pub table : length m.table ≡ length l.table
  pub shelf : length m.shelf ≡ length l.shelf

pub record Demand1 (M : Machine) : Type 0 where
  -- a line of document 01's table holds: the lowest is answered, and nothing moves
  pub refuses : (l : Lent) (c : Call) (j : ℕ) → LentBytes l → Well c → first_of (refusals l c) ≡ some j
      → ((M l c).answer ≡ refused_as c j) × Untouched l c (M l c)
  -- none holds: no refusal is answered
  pub accepts : (l : Lent) (c : Call) (j : ℕ) → LentBytes l → Well c → first_of (refusals l c) ≡ none → (M l c).answer ≡ Answer.refused j → ⊥
  -- and every answer is of the call's own kind, and in its ranges
  pub fits : (l : Lent) (c : Call) → LentBytes l → Well c → Fits c (M l c).answer
  -- "Every answer but 0 leaves the hand-out buffer untouched."
  pub leaves_out : (l : Lent) (c : Call) → LentBytes l → Well c → (number (M l c).answer ≡ 0 → ⊥) → (M l c).out ≡ out_of c
  -- buffers keep their lengths, and hold bytes
  pub lengths : (l : Lent) (c : Call) → LentBytes l → Well c → SameLengths l (M l c).after
  pub bytes : (l : Lent) (c : Call) → LentBytes l → Well c → LentBytes (M l c).after
  -- a desk that was sound stays sound, and one that is opened is sound, whatever stood there
  pub stays_sound : (l : Lent) (c : Call) → LentBytes l → Well c → LengthsRight l → sound (read l) ≡ true → sound (read (M l c).after) ≡ true
  pub opens_sound : (l : Lent) (n : ℕ) → LentBytes l → Passed n → (M l (Call.opening n)).answer ≡ Answer.done
      → sound (read (M l (Call.opening n)).after) ≡ true
