-- The whole call on any lent bytes: what its way in and its rule on a sound desk make of it.
use mathlib.Core.Path.{◌≡◌, refl, sym, ap, ◌∙◌}
use mathlib.Core.Bool.{Bool, true, false, not, ◌&&◌}
use mathlib.Core.Option.{Option, none, some}
use mathlib.Core.List.{List, [], ◌∷◌}
use Prim.Native.Nat.{ℕ, ◌/◌, ◌%◌, ◌≤◌}
use native.Mathlib.Omega.{arith}
use lib.Dec.{leb, eqb}
use lib.ListN.{length}
use borrow.Author.Tests.{eqb-true, leb-true}
use Rattle.std.specs.Prelude.{Result, Ok, Err, IsErrAnd}
use denote.Ref.{Bor}
use Rattle.rules.specs.declared.Refusal.{Refusal}
use Rattle.rules.specs.Answers.{Answer, number_of}
use Rattle.rules.specs.Memory.{Lent, lent, store_of, read}
use Rattle.rules.specs.Next.{told}
use Rattle.rules.specs.Refusals.{Call, slots_right, lengths_right, own_right, all_right, Refusals, first_of, own_refusals, looks_at_desk, refusals, refused_as, out_of, settled, step, reply, written_all, replied, called}
use Rattle.rules.specs.Sound.{sound}
use Rattle.rules.proofs.Bytes.{Bytes}
use Rattle.rules.proofs.RoundTrip.{Right, written_read}
use Rattle.running.specs.Scan.{Ready}
use Rattle.running.specs.declared.store.Store.{Store as Lends}
use Rattle.inarumpit.specs.WayIn.{or_zero, way_in, LetsInAll}
use Rattle.joins.proofs.Bools.{and_left, and_right}

-- ---- refused, and on its way

module _ (l : Lent) (c : Call) where
  replied_no : (k : ℕ) → first_of (refusals l c) ≡ some k → reply (refused_as c k) l (out_of c) ≡ called l c
  unfolding called replied
  replied_no k e = rw e refl

  written-settled : Right l → (x : Option ℕ) → written_all (settled x (read l) c) ≡ replied x l c
  unfolding settled replied
  written-settled r (some k) = ap (λ (b : Lent). reply (refused_as c k) b (out_of c)) (written_read l r)
  written-settled r none = refl

  replied_on : Right l → all_right l c ≡ true → looks_at_desk c && not (sound (read l)) ≡ false → written_all (step (read l) c) ≡ called l c
  unfolding called refusals first_of step
  replied_on r e f = written-settled r (first_of (own_refusals (read l) c)) ∙ rw (e, f) refl

-- ---- lengths

-- what right lengths say
pub record Lengths (d t s : ℕ) : Type 0 where
  pub desk : d ≡ 1088
  pub table : t % 64 ≡ 0
  pub shelf : s % 64 ≡ 0
  pub slots : t / 64 ≤ 16384
  pub entries : s / 64 ≤ 1048576
  pub some : 1 ≤ t / 64

slots_say : (n most : ℕ) → slots_right n most ≡ true → (n % 64 ≡ 0) × (1 ≤ n / 64) × (n / 64 ≤ most)
slots_say n most e =
    let r : leb 1 (n / 64) && leb (n / 64) most ≡ true = and_right (eqb (n % 64) 0) _ e in
    (eqb-true (n % 64) 0 (and_left (eqb (n % 64) 0) _ e), leb-true 1 (n / 64) (and_left (leb 1 (n / 64)) _ r), leb-true (n / 64) most (and_right (leb 1 (n / 64)) _ r))

pub lengths_say : (d t s : ℕ) → lengths_right d t s ≡ true → Lengths d t s
unfolding lengths_right
lengths_say d t s e =
    let r : slots_right t 16384 && slots_right s 1048576 ≡ true = and_right (eqb d 1088) _ e in
    let u = slots_say t 16384 (and_left (slots_right t 16384) _ r) in
    let v = slots_say s 1048576 (and_right (slots_right t 16384) _ r) in
    record { desk = eqb-true d 1088 (and_left (eqb d 1088) _ e); table = u.0; shelf = v.0; slots = u.2; entries = v.2; some = u.1 }

-- ---- the way in, from the steps of the code

module _ (own looks : Bool) (d t s : List ℕ) {x : Bool} (fit : x ≡ lengths_right (length d) (length t) (length s)) where
  pub way_wrong : own && x ≡ false → 1 ≡ way_in own looks d t s
  unfolding way_in first_of
  way_wrong e = rw (ap (λ (b : Bool). own && b) (sym fit) ∙ e) refl

  module _ (e : own && x ≡ true) where
    right : own && lengths_right (length d) (length t) (length s) ≡ true
    right = ap (λ (b : Bool). own && b) (sym fit) ∙ e

    pub way_lengths : Lengths (length d) (length t) (length s)
    way_lengths = lengths_say (length d) (length t) (length s) (and_right own _ right)

    pub way_blind : looks ≡ false → 0 ≡ way_in own looks d t s
    unfolding way_in first_of
    way_blind f = rw (right, f) refl

    module _ (f : looks ≡ true) {y : Bool} (ok : y ≡ sound (store_of d t s)) where
      pub way_unsound : y ≡ false → 2 ≡ way_in own looks d t s
      unfolding way_in first_of
      way_unsound g = rw (right, f, sym ok ∙ g) refl

      pub way_open : y ≡ true → 0 ≡ way_in own looks d t s
      unfolding way_in first_of
      way_open g = rw (right, f, sym ok ∙ g) refl

-- ---- what the way in says

abbrev outer : Bool → Bool → Refusals → Refusals
outer right bad rs = (not right, 1) ∷ (bad, 2) ∷ rs

passed : (right bad : Bool) → or_zero (first_of (outer right bad [])) ≡ 0 → (right ≡ true) × (bad ≡ false)
unfolding first_of
passed true true e = absurd (omega (arith, e))
passed true false e = (refl, refl)
passed false b e = absurd (omega (arith, e))

stopped : (right bad : Bool) (rs : Refusals) → (or_zero (first_of (outer right bad [])) ≡ 0 → ⊥) → first_of (outer right bad rs) ≡ some (or_zero (first_of (outer right bad [])))
unfolding first_of
stopped true true rs n = refl
stopped true false rs n = absurd (n refl)
stopped false b rs n = refl

looked : (looks ok : Bool) → looks && not ok ≡ false → looks ≡ true → ok ≡ true
looked true true e f = refl
looked true false e f = absurd (mathlib.Core.Bool.false≢true (sym e))
looked false ok e f = absurd (mathlib.Core.Bool.false≢true f)

-- it is open: the store is ready
pub way_ready : (d t s : List ℕ) → 0 ≡ way_in true true d t s → Ready d t s
unfolding way_in
way_ready d t s e =
    let through = passed (lengths_right (length d) (length t) (length s)) (not (sound (store_of d t s))) (sym e) in
    let z = lengths_say (length d) (length t) (length s) through.0 in
    (z.desk, omega (arith, z.slots, z.entries), looked true (sound (store_of d t s)) through.1 refl)

-- it is shut
pub way_shut : (d : List ℕ) (t s : Bor (List ℕ)) (a : Result Lends Refusal) (e : Refusal) → IsErrAnd a (λ x. x ≡ e) → number_of e ≡ way_in true true d t.now s.now → LetsInAll a d t s
way_shut d t s (Ok x) e h w = absurd h
way_shut d t s (Err x) e h w = ap number_of h ∙ w

-- a call that was let in: all that it was lent is right, and sound where it looks at the desk
pub record LetIn (d t s : List ℕ) (c : Call) : Type 0 where
  pub fits : all_right (lent d t s) c ≡ true
  pub looks : looks_at_desk c && not (sound (store_of d t s)) ≡ false
  pub desk_bytes : Bytes d
  pub table_bytes : Bytes t
  pub shelf_bytes : Bytes s

module _ {d t s : List ℕ} (c : Call) {k : ℕ} (way : k ≡ way_in (own_right c) (looks_at_desk c) d t s) where
  -- it is shut
  pub by_refusal : (k ≡ 0 → ⊥) → reply (refused_as c k) (lent d t s) (out_of c) ≡ called (lent d t s) c
  unfolding way_in refusals
  by_refusal n =
      replied_no (lent d t s) c k
      (stopped (all_right (lent d t s) c) (looks_at_desk c && not (sound (store_of d t s))) (own_refusals (store_of d t s) c) (λ e. n (way ∙ e)) ∙ ap some (sym way))

  -- it is open
  pub let_in : k ≡ 0 → Bytes d → Bytes t → Bytes s → LetIn d t s c
  unfolding way_in
  let_in e bd bt bs =
      let through = passed (all_right (lent d t s) c) (looks_at_desk c && not (sound (store_of d t s))) (sym way ∙ e) in
      record { fits = through.0; looks = through.1; desk_bytes = bd; table_bytes = bt; shelf_bytes = bs }

number_some : (e : Refusal) → number_of e ≡ 0 → ⊥
unfolding number_of
number_some Refusal.BadLength h = absurd (omega (arith, h))
number_some Refusal.BadDesk h = absurd (omega (arith, h))
number_some Refusal.BadNumber h = absurd (omega (arith, h))
number_some Refusal.BadKind h = absurd (omega (arith, h))
number_some Refusal.AlreadyThere h = absurd (omega (arith, h))
number_some Refusal.NotThere h = absurd (omega (arith, h))
number_some Refusal.TableFull h = absurd (omega (arith, h))
number_some Refusal.ShelfFull h = absurd (omega (arith, h))
number_some Refusal.NoPosition h = absurd (omega (arith, h))
number_some Refusal.NoScan h = absurd (omega (arith, h))
number_some Refusal.NoTicket h = absurd (omega (arith, h))

-- of a call that looks at the desk
module _ {d t s : List ℕ} (c : Call) where
  -- a buffer of its own has another length
  pub by_own_length : own_right c ≡ false → reply (refused_as c 1) (lent d t s) (out_of c) ≡ called (lent d t s) c
  unfolding refusals first_of
  by_own_length e = replied_no (lent d t s) c 1 (rw e refl)

  module _ (own : own_right c ≡ true) (looks : looks_at_desk c ≡ true) where
    pub by_way : (e : Refusal) → number_of e ≡ way_in true true d t s → reply (refused_as c (number_of e)) (lent d t s) (out_of c) ≡ called (lent d t s) c
    by_way e w = by_refusal c (rw (own, looks) w) (number_some e)

    pub let_through : 0 ≡ way_in true true d t s → Bytes d → Bytes t → Bytes s → LetIn d t s c
    let_through w = let_in c (rw (own, looks) w) refl

module _ {d t s : List ℕ} {c : Call} (l : LetIn d t s c) where
  pub by_lengths : Lengths (length d) (length t) (length s)
  by_lengths = lengths_say (length d) (length t) (length s) (and_right (own_right c) _ l.fits)

  pub by_own : own_right c ≡ true
  by_own = and_left (own_right c) _ l.fits

  pub by_sound : looks_at_desk c ≡ true → sound (store_of d t s) ≡ true
  by_sound = looked (looks_at_desk c) (sound (store_of d t s)) l.looks

  before : Right (lent d t s)
  before =
      let z = by_lengths in
      record { desk_length = z.desk; table_whole = z.table; shelf_whole = z.shelf; desk_bytes = l.desk_bytes; table_bytes = l.table_bytes; shelf_bytes = l.shelf_bytes }

  -- the rule's answer, store and hand-out buffer; the bytes are as many as before
  module _ {d' t' s' : List ℕ} (nd : length d' ≡ length d) (nt : length t' ≡ length t) (ns : length s' ≡ length s) (bd : Bytes d') (bt : Bytes t') (bs : Bytes s')
      {a : Answer} {o : List ℕ} (rule : told a (store_of d' t' s') o ≡ step (store_of d t s) c) where
    after : Right (lent d' t' s')
    after =
        let z = by_lengths in
        record { desk_length = nd ∙ z.desk; table_whole = rw nt z.table; shelf_whole = rw ns z.shelf; desk_bytes = bd; table_bytes = bt; shelf_bytes = bs }

    pub by_rule : reply a (lent d' t' s') o ≡ called (lent d t s) c
    by_rule =
        ap (λ (b : Lent). reply a b o) (sym (written_read (lent d' t' s') after)) ∙ ap written_all rule ∙ replied_on (lent d t s) c before l.fits l.looks

  -- of a call that changes no byte
  pub by_reading : {a : Answer} {o : List ℕ} → told a (store_of d t s) o ≡ step (store_of d t s) c → reply a (lent d t s) o ≡ called (lent d t s) c
  by_reading = by_rule refl refl refl l.desk_bytes l.table_bytes l.shelf_bytes
