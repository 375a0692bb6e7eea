-- What the contracts leave open: nothing. Two results that meet one contract are equal, and a refusal leaves every byte.
use mathlib.Core.Path.{◌≡◌, refl, sym, ap, ◌∙◌, subst}
use mathlib.Core.Option.{some}
use borrow.Author.Tests.{ltb-true, ltb-false}
use Rattle.std.specs.Prelude.{Bool, true, false, ltb, ℕ, ◌+◌, ◌*◌, ◌-◌, List, [], ◌∷◌, get_or, Result, Ok, Err}
use Rattle.std.specs.Borrow.{Bor}
use Rattle.rules.specs.declared.Draw.{Draw as DrawOfCode}
use Rattle.rules.specs.declared.Refusal.{Refusal}
use Rattle.rules.specs.declared.Tally.{Tally}
use Rattle.rules.specs.Answers.{Answer, Draw, Shown, number_of, value, draw_of, says, change_tells, change_says, begin_tells, begin_says, next_tells, next_says, tally_tells, tally_says, owed_tells, owed_says}
use Rattle.rules.specs.Memory.{Lent, Store, T, store_of, read}
use Rattle.rules.specs.Next.{peeked_at}
use Rattle.rules.specs.Refusals.{Call, first_of, refusals, refused_as, out_of, Reply, replied, called, Returned, packed_reply}
use Rattle.rules.specs.Promises.{Buffer, kept, before, after, Answers, HandsOut, Returns, ReturnsOut, LiesAt, NoCopy}

-- ---- a result of the code is told by its answer

-- a refusal by its number
refusal_back : ℕ → Refusal
refusal_back k = get_or (Refusal.BadLength ∷ Refusal.BadDesk ∷ Refusal.BadNumber ∷ Refusal.BadKind ∷ Refusal.AlreadyThere ∷ Refusal.NotThere ∷ Refusal.TableFull
    ∷ Refusal.ShelfFull ∷ Refusal.NoPosition ∷ Refusal.NoScan ∷ Refusal.NoTicket ∷ []) (k - 1) Refusal.BadLength

refusal-told : (r : Refusal) → refusal_back (number_of r) ≡ r
unfolding refusal_back number_of
refusal-told Refusal.BadLength = refl
refusal-told _ = refl

-- a result, where `of` reads its value back from what `tells` tells
back : {A : Type 0} → (Answer → A) → Answer → Result A Refusal
back of (Answer.refused k) = Err (refusal_back k)
back of a = Ok (of a)

told : {A : Type 0} (tells : A → Answer) (of : Answer → A) → ((x : A) → back of (tells x) ≡ Ok x) → (a : Result A Refusal) → back of (says tells a) ≡ a
unfolding back says
told tells of h (Ok x) = h x
told tells of h (Err r) = ap (λ (q : Refusal). Err q) (refusal-told r)

draw_back : Answer → DrawOfCode
draw_back (Answer.drew (Draw.in_hand n b)) = DrawOfCode.InHand n b
draw_back (Answer.drew (Draw.finished n b h)) = DrawOfCode.Finished n b h
draw_back a = DrawOfCode.Paused (value a)

draw-told : (d : DrawOfCode) → back draw_back (next_tells d) ≡ Ok d
unfolding back draw_back draw_of value
draw-told (DrawOfCode.Paused n) = refl
draw-told _ = refl

tally_back : Answer → Tally
tally_back (Answer.shown (Shown.counted r e)) = record { records = r; entries = e }
tally_back a = record { records = 0; entries = 0 }

part_back : Answer → List ℕ
part_back (Answer.shown (Shown.part bs)) = bs
part_back a = []

-- ---- one result: the premises are the contracts, of buffers that were lent with the same bytes

same : {X : Type 0} (f : Lent → X) {k₁ k₂ : Lent} {x y : X} → k₁ ≡ k₂ → x ≡ f k₁ → y ≡ f k₂ → x ≡ y
same f alike one two = one ∙ ap f alike ∙ sym two

module _ (c : Call) (d₁ t₁ s₁ d₂ t₂ s₂ : Buffer) (alike : before d₁ t₁ s₁ ≡ before d₂ t₂ s₂) where
  -- of a call for Rattle callers whose answers `says` tells apart; next hands out besides
  abbrev Once : {A : Type 0} → (A → Answer) → Type 0
  Once {A} says = (a b : A) → Answers (says a) d₁ t₁ s₁ c → Answers (says b) d₂ t₂ s₂ c → (a ≡ b) × (after d₁ t₁ s₁ ≡ after d₂ t₂ s₂)

  abbrev OnceOut : {A : Type 0} → (A → Answer) → Type 0
  OnceOut {A} says = (o₁ o₂ : Buffer) (a b : A) → HandsOut (says a) d₁ t₁ s₁ o₁ c → HandsOut (says b) d₂ t₂ s₂ o₂ c
      → (a ≡ b) × (after d₁ t₁ s₁ ≡ after d₂ t₂ s₂) × (o₁.exit ≡ o₂.exit)

  once_out : {A : Type 0} (says : A → Answer) (back : Answer → A) → ((a : A) → back (says a) ≡ a) → OnceOut says
  once_out says back h o₁ o₂ a b p q =
      let e = same (λ (k : Lent). called k c) alike p q in
      (sym (h a) ∙ ap (λ (r : Reply). back r.answer) e ∙ h b, ap (λ (r : Reply). r.after) e, ap (λ (r : Reply). r.out) e)

  once : {A : Type 0} (says : A → Answer) (back : Answer → A) → ((a : A) → back (says a) ≡ a) → Once says
  once says back h a b p q = let z = once_out says back h (kept []) (kept []) a b p q in (z.0, z.1)

  result_once : {A : Type 0} (tells : A → Answer) (of : Answer → A) → ((x : A) → back of (tells x) ≡ Ok x) → Once (says tells)
  result_once tells of h = once (says tells) (back of) (told tells of h)

  -- open, insert, modify, delete
  pub change_once : Once change_says
  unfolding back
  change_once = result_once change_tells (λ a. record {}) (λ u. refl)

  pub begin_once : Once begin_says
  unfolding back value
  begin_once = result_once begin_tells (λ a. record { 0 = value a }) (λ t. refl)

  pub tally_once : Once tally_says
  unfolding back tally_back
  tally_once = result_once tally_tells tally_back (λ n. refl)

  pub owed_once : Once owed_says
  unfolding back value
  owed_once = result_once owed_tells (λ a. record { 0 = value a }) (λ n. refl)

  -- peek: the bytes of its part
  pub peek_once : Once (λ (bs : List ℕ). Answer.shown (Shown.part bs))
  unfolding part_back
  peek_once = once (λ bs. Answer.shown (Shown.part bs)) part_back (λ bs. refl)

  pub next_once : OnceOut next_says
  next_once = once_out next_says (back draw_back) (told next_tells draw_back draw-told)

  -- every exported call: next, and the others
  pub host_next_once : (o₁ o₂ : Buffer) (n₁ n₂ : ℕ) → ReturnsOut n₁ d₁ t₁ s₁ o₁ c → ReturnsOut n₂ d₂ t₂ s₂ o₂ c → (n₁ ≡ n₂) × (after d₁ t₁ s₁ ≡ after d₂ t₂ s₂) × (o₁.exit ≡ o₂.exit)
  host_next_once o₁ o₂ n₁ n₂ p q =
      let e = same (λ (k : Lent). packed_reply (called k c)) alike p q in
      (ap (λ (r : Returned). r.number) e, ap (λ (r : Returned). r.after) e, ap (λ (r : Returned). r.out) e)

  pub host_once : (n₁ n₂ : ℕ) → Returns n₁ d₁ t₁ s₁ c → Returns n₂ d₂ t₂ s₂ c → (n₁ ≡ n₂) × (after d₁ t₁ s₁ ≡ after d₂ t₂ s₂)
  host_once n₁ n₂ p q = let z = host_next_once (kept []) (kept []) n₁ n₂ p q in (z.0, z.1)

-- where peek's part lies, in a table and a shelf that lie there
module _ (d₁ t₁ s₁ d₂ t₂ s₂ : Bor (List ℕ)) (alike : before (kept d₁.now) (kept t₁.now) (kept s₁.now) ≡ before (kept d₂.now) (kept t₂.now) (kept s₂.now)) where
  abbrev S : Store
  S = store_of d₁.now t₁.now s₁.now

  pub part_once : (x y : Bor (List ℕ)) (ticket : ℕ) → t₁.ref_ptr ≡ t₂.ref_ptr → s₁.ref_ptr ≡ s₂.ref_ptr
      → NoCopy x d₁ t₁ s₁ ticket → NoCopy y d₂ t₂ s₂ ticket → (x.now ≡ [] → ⊥) → (y.now ≡ [] → ⊥) → x.ref_ptr ≡ y.ref_ptr
  part_once x y ticket et es p q nx ny = go (ltb (peeked_at S ticket) (T S)) refl
    where
      here : LiesAt y t₂ s₂ (T S) (peeked_at S ticket)
      here = subst (λ (k : Lent). LiesAt y t₂ s₂ (T (read k)) (peeked_at (read k) ticket)) (sym alike) (q ny)

      go : (b : Bool) → ltb (peeked_at S ticket) (T S) ≡ b → x.ref_ptr ≡ y.ref_ptr
      go true e = let h = ltb-true _ _ e in (p nx).in_table h ∙ ap (λ (a : _). (a.0, peeked_at S ticket * 64 + a.1)) et ∙ sym (here.in_table h)
      go false e = let h = ltb-false _ _ e in (p nx).on_shelf h ∙ ap (λ (a : _). (a.0, (peeked_at S ticket - T S) * 64 + a.1)) es ∙ sym (here.on_shelf h)

-- ---- "Refusals 1 to 11 change no byte."

pub refused-same : (l : Lent) (c : Call) (k : ℕ) → first_of (refusals l c) ≡ some k → ((called l c).answer ≡ refused_as c k) × ((called l c).after ≡ l) × ((called l c).out ≡ out_of c)
unfolding called replied
refused-same l c k e = rw e (refl, refl, refl)
