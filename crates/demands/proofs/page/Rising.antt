-- The numbers of a call's refusals rise, so that the first that holds is the lowest.
use mathlib.Core.Path.{◌≡◌, refl, sym, ap, ◌∙◌}
use mathlib.Core.Bool.{Bool, true, false, ◌&&◌, false≢true}
use mathlib.Core.Option.{Option, none, some, none-ne-some, some-injective}
use mathlib.Core.List.Memᴰ
use mathlib.Core.List.{[], ◌∷◌}
use mathlib.Core.Logic.{◌⊎◌, inl, inr, ◌↔◌}
use Prim.Native.Nat.{ℕ, ◌≤◌, ◌<◌}
use native.Mathlib.Omega.{arith}
use lib.Dec.{ltb, leb}
use borrow.Author.Tests.{ltb-true, leb-true}
use Rattle.demands.specs.History.{History}
use Rattle.demands.specs.Lowest.{Lowest}
use Rattle.demands.specs.Reasons.{reasons}
use Rattle.rules.specs.Memory.{Lent, Store, read}
use Rattle.rules.specs.Refusals.{Call, Change, Reading, Refusals, first_of, own_refusals, refusals}
use Rattle.stores.proofs.FirstOf.{Untrue, none-holds}
use Rattle.demands.proofs.lists.Lists.{In}
use Rattle.stores.proofs.Spelling.{both_true}

-- above m, and up to 11
unfoldable pub rising : ℕ → Refusals → Bool
rising m [] = true
rising m (t ∷ ts) = ltb m t.1 && (leb t.1 11 && rising t.1 ts)

-- a list of which no test holds
none_in : (ts : Refusals) → Untrue ts → (k : ℕ) → In (true, k) ts → ⊥
none_in [] u k i = Memᴰ.not-nil i
none_in (t ∷ ts) u k i = go (Memᴰ.cases_cons i) (none_in ts u.1 k)
  where
    go : ((true, k) ≡ t) ⊎ In (true, k) ts → (In (true, k) ts → ⊥) → ⊥
    go (inl e) ih = false≢true (sym u.0 ∙ sym (ap (λ (x : Bool × ℕ). x.0) e))
    go (inr j) ih = ih j

record Rises (m : ℕ) (t : Bool × ℕ) (ts : Refusals) : Type 0 where
  above : m < t.1
  most : t.1 ≤ 11
  rest : rising t.1 ts ≡ true

rises : (m : ℕ) (t : Bool × ℕ) (ts : Refusals) → rising m (t ∷ ts) ≡ true → Rises m t ts
unfolding rising
rises m t ts e =
    let a = both_true (ltb m t.1) (leb t.1 11 && rising t.1 ts) e in
    let b = both_true (leb t.1 11) (rising t.1 ts) a.1 in
    record { above = ltb-true m t.1 a.0; most = leb-true t.1 11 b.0; rest = b.1 }

-- every number of the list is above m
above : (m : ℕ) (ts : Refusals) → rising m ts ≡ true → (j : ℕ) → In (true, j) ts → m < j
above m [] r j i = absurd (Memᴰ.not-nil i)
above m (t ∷ ts) r j i = go (Memᴰ.cases_cons i) (rises m t ts r) (above t.1 ts (rises m t ts r).rest j)
  where
    go : ((true, j) ≡ t) ⊎ In (true, j) ts → Rises m t ts → (In (true, j) ts → t.1 < j) → m < j
    go (inl e) w ih = let z : j ≡ t.1 = ap (λ (x : Bool × ℕ). x.1) e in omega (arith, w.above)
    go (inr k) w ih = omega (arith, w.above, ih k)

is_lowest : (m : ℕ) (ts : Refusals) → rising m ts ≡ true → (k : ℕ) → first_of ts ≡ some k → Lowest ts k
unfolding first_of
is_lowest m [] r k e = absurd (none-ne-some k e)
is_lowest m (t ∷ ts) r k e = go t.0 refl (is_lowest t.1 ts (rises m t ts r).rest k)
  where
    go : (b : Bool) → t.0 ≡ b → (first_of ts ≡ some k → Lowest ts k) → Lowest (t ∷ ts) k
    go true q ih =
        let z : t.1 ≡ k = some-injective t.1 k (sym (rw q refl) ∙ e) in
        record { holds = Memᴰ.head (λ i. (sym q i, sym z i)); least = λ j w. first z j (Memᴰ.cases_cons w) }
      where
        first : t.1 ≡ k → (j : ℕ) → ((true, j) ≡ t) ⊎ In (true, j) ts → k ≤ j
        first z j (inl f) = let y : j ≡ t.1 = ap (λ (x : Bool × ℕ). x.1) f in omega arith
        first z j (inr i) = omega (arith, above t.1 ts (rises m t ts r).rest j i)
    go false q ih =
        let w = ih (sym (rw q refl) ∙ e) in
        record { holds = Memᴰ.tail w.holds; least = λ j x. w.least j (later j (Memᴰ.cases_cons x)) }
      where
        later : (j : ℕ) → ((true, j) ≡ t) ⊎ In (true, j) ts → In (true, j) ts
        later j (inl f) = absurd (false≢true (sym q ∙ sym (ap (λ (x : Bool × ℕ). x.0) f)))
        later j (inr i) = i

is_first : (m : ℕ) (ts : Refusals) → rising m ts ≡ true → (k : ℕ) → Lowest ts k → first_of ts ≡ some k
is_first m ts r k w = go (first_of ts) refl
  where
    go : (x : Option ℕ) → first_of ts ≡ x → x ≡ some k
    go none e = absurd (none_in ts (none-holds ts e) k w.holds)
    go (some j) e =
        let v = is_lowest m ts r j e in
        let z : j ≡ k = omega (arith, v.least k w.holds, w.least j v.holds) in
        ap some z

first-within : (m : ℕ) (ts : Refusals) → rising m ts ≡ true → (k : ℕ) → first_of ts ≡ some k → (m < k) × (k ≤ 11)
unfolding first_of
first-within m [] r k e = absurd (none-ne-some k e)
first-within m (t ∷ ts) r k e = go t.0 refl (rises m t ts r) (first-within t.1 ts (rises m t ts r).rest k)
  where
    go : (b : Bool) → t.0 ≡ b → Rises m t ts → (first_of ts ≡ some k → (t.1 < k) × (k ≤ 11)) → (m < k) × (k ≤ 11)
    go true q w ih = let z : t.1 ≡ k = some-injective t.1 k (sym (rw q refl) ∙ e) in (omega (arith, w.above), omega (arith, w.most))
    go false q w ih = let v = ih (sym (rw q refl) ∙ e) in (omega (arith, w.above, v.0), v.1)

pub first-lowest : (m : ℕ) (ts : Refusals) → rising m ts ≡ true → (k : ℕ) → (first_of ts ≡ some k) ↔ Lowest ts k
first-lowest m ts r k = (is_lowest m ts r k, λ w. is_first m ts r k w)

-- ---- document 01's lines, and the reasons

own_rise : (S : Store) (c : Call) → rising 2 (own_refusals S c) ≡ true
unfolding own_refusals rising
own_rise S (Call.opening n) = refl
own_rise S (Call.change (Change.insert k b)) = refl
own_rise S (Call.change (Change.modify k b)) = refl
own_rise S (Call.change (Change.delete k)) = refl
own_rise S Call.begin = refl
own_rise S (Call.next t b o) = refl
own_rise S (Call.reading (Reading.peek t)) = refl
own_rise S (Call.reading Reading.tally) = refl
own_rise S (Call.reading (Reading.owed t)) = refl

pub refusals_rise : (l : Lent) (c : Call) → rising 0 (refusals l c) ≡ true
unfolding refusals rising
refusals_rise l c = own_rise (read l) c

pub refused-within : (l : Lent) (c : Call) (k : ℕ) → first_of (refusals l c) ≡ some k → (1 ≤ k) × (k ≤ 11)
refused-within l c k e = first-within 0 (refusals l c) (refusals_rise l c) k e

pub reasons_rise : (N T R : ℕ) (h : History) (c : Call) → rising 0 (reasons N T R h c) ≡ true
unfolding reasons rising
reasons_rise N T R h (Call.opening n) = refl
reasons_rise N T R h (Call.change (Change.insert k b)) = refl
reasons_rise N T R h (Call.change (Change.modify k b)) = refl
reasons_rise N T R h (Call.change (Change.delete k)) = refl
reasons_rise N T R h Call.begin = refl
reasons_rise N T R h (Call.next t b o) = refl
reasons_rise N T R h (Call.reading (Reading.peek t)) = refl
reasons_rise N T R h (Call.reading Reading.tally) = refl
reasons_rise N T R h (Call.reading (Reading.owed t)) = refl
