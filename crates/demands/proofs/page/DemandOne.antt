-- The calls of document 01, on any lent bytes, meet demand 1.
use mathlib.Core.Path.{◌≡◌, refl, sym, ◌∙◌, subst}
use mathlib.Core.Bool.{Bool, true, false, not, ◌&&◌, false≢true}
use mathlib.Core.Option.{Option, none, some}
use mathlib.Core.List.{◌∷◌}
use Prim.Native.Nat.{ℕ, ◌*◌, ◌/◌, ◌%◌}
use native.Mathlib.Omega.{arith}
use lib.ListN.{length}
use borrow.Author.Tests.{not-false}
use Rattle.demands.specs.DemandOne.{SameLengths, Demand1}
use Rattle.demands.specs.Fits.{Fits}
use Rattle.rules.specs.Passed.{Passed, Well, LentBytes, LengthsRight}
use Rattle.rules.specs.Answers.{Answer, number}
use Rattle.rules.specs.Calls.{position_of}
use Rattle.rules.specs.Memory.{Lent, Store, T, R, store_of, read, written}
use Rattle.rules.specs.Refusals.{Call, Reply, own_right, all_right, first_of, own_refusals, looks_at_desk, refusals, effect, refused_as, out_of, written_all, replied, called}
use Rattle.rules.specs.Sound.{sound}
use Rattle.stores.proofs.FirstOf.{Untrue, none-holds}
use Rattle.stores.proofs.ChangesFine.{opened_fine}
use Rattle.stores.proofs.Codec.{read-written}
use Rattle.demands.proofs.page.Fits.{refused-fits, effect-fits}
use Rattle.stores.proofs.OnePosition.{Fine}
use Rattle.stores.proofs.Sizes.{Sized}
use Rattle.stores.proofs.SoundDesk.{to_sound, of_sound}
use Rattle.stores.proofs.Spelling.{both_true, to_lengths, count-read, read_sized, length-slots, length-desk, written-bytes}
use Rattle.stores.proofs.Stays.{Kept, effect_fine, effect_kept}
use Rattle.rules.proofs.Walk.{walk_ind}

-- ---- what is known of bytes that no line refuses

pub record Accepted (l : Lent) (c : Call) : Type 0 where
  pub own : own_right c ≡ true
  pub lengths : LengthsRight l
  pub desk : looks_at_desk c ≡ true → sound (read l) ≡ true
  pub others : Untrue (own_refusals (read l) c)

pub accepted : (l : Lent) (c : Call) → first_of (refusals l c) ≡ none → Accepted l c
unfolding refusals
accepted l c e =
    let u = none-holds ((not (all_right l c), 1) ∷ (looks_at_desk c && not (sound (read l)), 2) ∷ own_refusals (read l) c) e in
    let r = both_true (own_right c) _ (not-false _ u.0) in
    record { own = r.0; lengths = r.1; desk = λ d. sounds (looks_at_desk c) (sound (read l)) d u.1.0; others = u.1.1 }
  where
    sounds : (a b : Bool) → a ≡ true → a && not b ≡ false → b ≡ true
    sounds true true d f = refl
    sounds true false d f = sym f
    sounds false b d f = absurd (false≢true d)

pub read_fine : (l : Lent) → LentBytes l → LengthsRight l → sound (read l) ≡ true → Fine (read l)
unfolding store_of
read_fine l a h s =
    let n = to_lengths l h in
    record {
      sized = read_sized l a n.desk;
      sound = to_sound (read l) s;
      slots = rw (count-read l.table) n.slots;
      small = rw (count-read l.table, count-read l.shelf) (omega (arith, n.slots_most, n.entries_most));
    }

opening_fine : (l : Lent) → LengthsRight l → (n : ℕ) → Untrue (own_refusals (read l) (Call.opening n)) → Fine (effect (read l) (Call.opening n)).after
unfolding effect own_refusals store_of
opening_fine l h n u =
    let z = to_lengths l h in
    opened_fine n (T (read l)) (R (read l)) (not-false _ u.0) (rw (count-read l.table) z.slots) (rw (count-read l.table, count-read l.shelf) (omega (arith, z.slots_most, z.entries_most)))

-- what an accepted call writes is fine
pub accepted_fine : (l : Lent) (c : Call) → LentBytes l → Well c → Accepted l c → Fine (effect (read l) c).after
unfolding looks_at_desk
accepted_fine l (Call.opening n) a w q = opening_fine l q.lengths n q.others
accepted_fine l (Call.change c) a w q = effect_fine (read l) (read_fine l a q.lengths (q.desk refl)) (Call.change c) w q.own q.others
accepted_fine l Call.begin a w q = effect_fine (read l) (read_fine l a q.lengths (q.desk refl)) Call.begin w q.own q.others
accepted_fine l (Call.next t b o) a w q = effect_fine (read l) (read_fine l a q.lengths (q.desk refl)) (Call.next t b o) w q.own q.others
accepted_fine l (Call.reading x) a w q = effect_fine (read l) (read_fine l a q.lengths (q.desk refl)) (Call.reading x) w q.own q.others

-- ---- answers and the hand-out buffer

pub unrefused : (S : Store) (c : Call) (k : ℕ) → (effect S c).answer ≡ Answer.refused k → ⊥
unfolding effect
unrefused S (Call.opening n) k e = let z : ◌≡◌ {A = ℕ} 0 1 = cc in omega arith
unrefused S (Call.change c) k e = let z : ◌≡◌ {A = ℕ} 0 1 = cc in omega arith
unrefused S Call.begin k e = let z : ◌≡◌ {A = ℕ} 0 1 = cc in omega arith
unrefused S (Call.next t b o) k e =
    walk_ind (position_of S t) o (λ X l c. Unit) (λ r. r.answer ≡ Answer.refused k → ⊥)
    (λ X l c h d q. let z : ◌≡◌ {A = ℕ} 0 1 = cc in omega arith) (λ X l h d q. let z : ◌≡◌ {A = ℕ} 0 1 = cc in omega arith) (λ X l c h d q. tt)
    (λ X l c v h d q r. let z : ◌≡◌ {A = ℕ} 0 1 = cc in omega arith) b S 0 tt e
unrefused S (Call.reading q) k e = let z : ◌≡◌ {A = ℕ} 0 1 = cc in omega arith

pub out-left : (S : Store) (c : Call) → (number (effect S c).answer ≡ 0 → ⊥) → (effect S c).out ≡ out_of c
unfolding effect out_of number
out-left S (Call.opening n) d = refl
out-left S (Call.change c) d = refl
out-left S Call.begin d = refl
out-left S (Call.next t b o) d =
    walk_ind (position_of S t) o (λ X l c. Unit) (λ r. (number r.answer ≡ 0 → ⊥) → r.out ≡ o) (λ X l c h e q. refl) (λ X l h e q. refl) (λ X l c h e q. tt) (λ X l c v h e q f. absurd (f refl)) b S 0 tt d
out-left S (Call.reading q) d = refl

-- as many slots and entries are written in as many bytes
pub written-lengths : (l : Lent) (X : Store) → LengthsRight l → Sized X → Kept (read l) X → SameLengths l (written X)
unfolding written store_of
written-lengths l X h z k =
    let n = to_lengths l h in
    record {
      desk = length-desk X.desk z.desk ∙ sym n.desk;
      table = length-slots X.table z.table ∙ whole (length l.table) (T X) (k.slots ∙ count-read l.table) n.table;
      shelf = length-slots X.shelf z.shelf ∙ whole (length l.shelf) (R X) (k.entries ∙ count-read l.shelf) n.shelf;
    }
  where
    whole : (x n : ℕ) → n ≡ x / 64 → x % 64 ≡ 0 → n * 64 ≡ x
    whole x n e z = omega arith

-- ---- every clause, refused or not

module _ (l : Lent) (c : Call) (a : LentBytes l) (w : Well c) where
  -- what holds of the refused call and of the accepted one holds of the call
  by_refusal : (P : Reply → Type 0) → ((k : ℕ) → first_of (refusals l c) ≡ some k → P (replied (some k) l c)) → (Accepted l c → P (written_all (effect (read l) c))) → P (called l c)
  unfolding called replied
  by_refusal P x y = go (first_of (refusals l c)) refl
    where
      go : (o : Option ℕ) → first_of (refusals l c) ≡ o → P (replied (first_of (refusals l c)) l c)
      go (some k) e = subst (λ (o : Option ℕ). P (replied o l c)) (sym e) (x k e)
      go none e = subst (λ (o : Option ℕ). P (replied o l c)) (sym e) (y (accepted l c e))

  lengths_stay : SameLengths l (called l c).after
  unfolding replied
  lengths_stay =
      by_refusal (λ r. SameLengths l r.after) (λ k e. record { desk = refl; table = refl; shelf = refl }) (λ q. written-lengths l (effect (read l) c).after q.lengths (accepted_fine l c a w q).sized (effect_kept (read l) c))

  bytes_stay : LentBytes (called l c).after
  unfolding replied
  bytes_stay = by_refusal (λ r. LentBytes r.after) (λ k e. a) (λ q. written-bytes (effect (read l) c).after (accepted_fine l c a w q).sized)

  written-sound : Accepted l c → sound (read (written (effect (read l) c).after)) ≡ true
  written-sound q = let f = accepted_fine l c a w q in rw (read-written (effect (read l) c).after f.sized) (of_sound (effect (read l) c).after f.sound)

  sound_stays : LengthsRight l → sound (read l) ≡ true → sound (read (called l c).after) ≡ true
  unfolding replied
  sound_stays h s = by_refusal (λ r. sound (read r.after) ≡ true) (λ k e. s) written-sound

  answer-fits : Fits c (called l c).answer
  unfolding replied store_of
  answer-fits =
      by_refusal (λ r. Fits c r.answer) (λ k e. refused-fits l c k e)
      (λ q. let n = to_lengths l q.lengths in
      effect-fits (read l) (omega (arith, count-read l.table, n.slots_most)) (omega (arith, count-read l.shelf, n.entries_most)) c (λ d. read_fine l a q.lengths (q.desk d)) q.others)

opened-sound : (l : Lent) (n : ℕ) → LentBytes l → Passed n → (called l (Call.opening n)).answer ≡ Answer.done → sound (read (called l (Call.opening n)).after) ≡ true
unfolding replied refused_as
opened-sound l n a w =
    by_refusal l (Call.opening n) a w (λ r. r.answer ≡ Answer.done → sound (read r.after) ≡ true) (λ k e d. let z : ◌≡◌ {A = ℕ} 0 1 = cc in absurd (omega arith))
    (λ q d. written-sound l (Call.opening n) a w q)

-- "for all lent bytes and all numbers"
pub demand_1 : Demand1 called
unfolding called replied
demand_1 =
    record {
      refuses = λ l c k a w e. rw e (refl, record { buffers = refl; hand_out = refl });
      accepts = λ l c k a w e. rw e (unrefused (read l) c k);
      fits = answer-fits;
      leaves_out = λ l c a w. by_refusal l c a w (λ r. (number r.answer ≡ 0 → ⊥) → r.out ≡ out_of c) (λ k e d. refl) (λ q. out-left (read l) c);
      lengths = lengths_stay;
      bytes = bytes_stay;
      stays_sound = sound_stays;
      opens_sound = opened-sound;
    }
