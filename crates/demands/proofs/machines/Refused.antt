-- A machine with demand 2 answers a number exactly when its reason holds, and with room enough 8 never comes.
use mathlib.Core.Path.{◌≡◌, refl, sym, ap, ◌∙◌, subst}
use mathlib.Core.Bool.{Bool, true, false, false≢true}
use mathlib.Core.Option.{Option, none, some, none-ne-some, some-injective}
use mathlib.Core.List.Memᴰ
use mathlib.Core.List.{List, [], ◌∷◌, ◌++◌}
use mathlib.Core.Logic.{◌⊎◌, inl, inr, ◌↔◌}
use Prim.Native.Nat.{ℕ, suc, ◌*◌, ◌≤◌}
use native.Mathlib.Nat.{suc-mul, zero-mul, mul-le-mul_right}
use native.Mathlib.Omega.{arith}
use lib.Dec.{eqb, leb}
use lib.ListN.{length, length-append}
use borrow.Author.Tests.{leb-true, eqb-false}
use Rattle.demands.specs.DemandThree.{AlwaysRoom}
use Rattle.demands.specs.DemandTwo.{Going, Fulfils, Answers, Demand2}
use Rattle.demands.specs.History.{Version, Scan, History, awaits, awaited, needed, numbered, leaving, scan_of}
use Rattle.rules.specs.Passed.{All}
use Rattle.demands.specs.Lists.{any}
use Rattle.demands.specs.Lives.{Opening, table_slots, shelf_entries, bytes_after, past}
use Rattle.demands.specs.Machine.{Machine, Within, exported}
use Rattle.demands.specs.Reasons.{no_room_for, reasons, reason}
use Rattle.rules.specs.Answers.{Answer}
use Rattle.rules.specs.Refusals.{Call, Change, Reading, first_of, refused_as, called}
use Rattle.demands.proofs.machines.AnyMachine.{Bounded, any_told}
use Rattle.demands.proofs.lists.Apart.{apart-those, apart_right, apart_across}
use Rattle.demands.proofs.invariant.Counts.{no_more}
use Rattle.demands.proofs.page.DemandTwo.{demand_2}
use Rattle.demands.proofs.lists.Lists.{In, in_left, in_right, in_any, those_in}
use Rattle.demands.proofs.history.Past.{Past, ever, change_of, awaited-began}

-- ---- refused exactly for the reason

pub refused_as_lem : (c : Call) → exported c ≡ true → (k : ℕ) → refused_as c k ≡ Answer.refused k
unfolding refused_as
refused_as_lem (Call.opening n) w k = refl
refused_as_lem (Call.change c) w k = refl
refused_as_lem Call.begin w k = refl
refused_as_lem (Call.next t b o) w k = refl
refused_as_lem (Call.reading (Reading.peek t)) w k = absurd (false≢true w)
refused_as_lem (Call.reading Reading.tally) w k = refl
refused_as_lem (Call.reading (Reading.owed t)) w k = refl

-- what fulfils a call is no refusal
fulfilled : (T R : ℕ) (h : History) (c : Call) (a : Answer) (out : List ℕ) → Fulfils T R h c a out → (k : ℕ) → a ≡ Answer.refused k → ⊥
unfolding Fulfils
fulfilled T R h (Call.opening n) a out f k e = let z : ◌≡◌ {A = ℕ} 0 1 = cc in omega arith
fulfilled T R h (Call.change c) a out f k e = let z : ◌≡◌ {A = ℕ} 0 1 = cc in omega arith
fulfilled T R h Call.begin a out f k e = let z : ◌≡◌ {A = ℕ} 0 1 = cc in omega arith
fulfilled T R h (Call.next t b o) a out f k e = go (scan_of h t) (subst (Going T R h (scan_of h t) b out) e f)
  where
    go : (s : Option Scan) → Going T R h s b out (Answer.refused k) → ⊥
    go none w = w
    go (some s) w = w
fulfilled T R h (Call.reading q) a out f k e = f k e

module _ (M : Machine) (d : Demand2 M) (o : Opening) (cs : List Call) (ws : All Within cs) (c : Call) (w : Within c) where
  abbrev why : Option ℕ
  why = reason o.n (table_slots o) (shelf_entries o) (past M o cs) c

  pub refused_iff : exported c ≡ true → (k : ℕ) → ((M (bytes_after M o cs) c).answer ≡ Answer.refused k) ↔ (reason o.n (table_slots o) (shelf_entries o) (past M o cs) c ≡ some k)
  refused_iff num k = (to, from)
    where
      by : (x : Option ℕ) → why ≡ x → Answers (table_slots o) (shelf_entries o) (past M o cs) x c (M (bytes_after M o cs) c).answer (M (bytes_after M o cs) c).out
      by x e = subst (λ (y : Option ℕ). Answers (table_slots o) (shelf_entries o) (past M o cs) y c (M (bytes_after M o cs) c).answer (M (bytes_after M o cs) c).out) e (d.answers o cs ws c w)

      to : (M (bytes_after M o cs) c).answer ≡ Answer.refused k → why ≡ some k
      to e = go why refl
        where
          go : (x : Option ℕ) → why ≡ x → why ≡ some k
          go none f = absurd (fulfilled (table_slots o) (shelf_entries o) (past M o cs) c (M (bytes_after M o cs) c).answer (M (bytes_after M o cs) c).out (by none f) k e)
          go (some j) f = let z : Answer.refused j ≡ Answer.refused k = sym (refused_as_lem c num j) ∙ sym (by (some j) f) ∙ e in let y : j ≡ k = cc in f ∙ ap some y

      from : why ≡ some k → (M (bytes_after M o cs) c).answer ≡ Answer.refused k
      from e = by (some k) e ∙ refused_as_lem c num k

-- ---- room

-- what all running scans began with
abbrev all_began : List Scan → List Version
all_began [] = []
all_began (s ∷ l) = s.began ++ all_began l

in_began : (l : List Scan) (s : Scan) (v : Version) → In s l → In v s.began → In v (all_began l)
in_began [] s v i j = absurd (Memᴰ.not-nil i)
in_began (x ∷ l) s v i j = go (Memᴰ.cases_cons i) (λ k. in_began l s v k j)
  where
    go : (s ≡ x) ⊎ In s l → (In s l → In v (all_began l)) → In v (x.began ++ all_began l)
    go (inl e) ih = in_left v x.began (all_began l) (subst (λ (u : Scan). In v u.began) e j)
    go (inr k) ih = in_right v x.began (all_began l) (ih k)

began_most : (T : ℕ) (l : List Scan) → ((s : Scan) → In s l → length s.began ≤ T) → length (all_began l) ≤ length l * T
began_most T [] h = omega (arith, zero-mul T)
began_most T (x ∷ l) h =
    let a : length x.began ≤ T = h x (Memᴰ.head refl) in
    let b : length (all_began l) ≤ length l * T = began_most T l (λ s i. h s (Memᴰ.tail i)) in
    omega (arith, length-append x.began (all_began l), suc-mul (length l) T)

module _ (N T R : ℕ) (h : History) (q : Past h) (b : Bounded N T R h) (big : N * T ≤ R) where
  awaited_somewhere : (v : Version) → In v (ever h) → awaited h v ≡ true → In v (all_began h.running)
  unfolding awaited
  awaited_somewhere v m e = let w = in_any (λ s. awaits s v) h.running e in in_began h.running w.0 v w.1 (awaited-began h q w.0 w.1 v m w.2)

  -- each needed version, and one more, is one that a running scan began with
  one_more : (v : Version) → In v h.live → awaited h v ≡ true → suc (length (needed h)) ≤ N * T
  one_more v m e =
      let a : suc (length (needed h)) ≤ length (all_began h.running) =
      no_more change_of (v ∷ needed h) (all_began h.running)
      ((λ u i z. apart_across change_of h.live h.left q.names v u m (those_in (awaited h) h.left u i).0 (sym z)), apart-those change_of (awaited h) h.left (apart_right change_of h.live h.left q.names))
      (λ u i. go u (Memᴰ.cases_cons i)) in
      let c : length (all_began h.running) ≤ length h.running * T = began_most T h.running b.began in
      let f : length h.running * T ≤ N * T = mul-le-mul_right T b.running in
      omega arith
    where
      go : (u : Version) → (u ≡ v) ⊎ In u (needed h) → In u (all_began h.running)
      go u (inl z) = subst (λ (x : Version). In x (all_began h.running)) (sym z) (awaited_somewhere v (in_left v h.live h.left m) e)
      go u (inr i) = let w = those_in (awaited h) h.left u i in awaited_somewhere u (in_right u h.live h.left w.0) w.1

  pub room : (k : ℕ) → no_room_for N T R h k ≡ false
  room k = go (any (awaited h) (leaving k h.live)) refl (leb R (length (needed h))) refl
    where
      go : (x : Bool) → any (awaited h) (leaving k h.live) ≡ x → (y : Bool) → leb R (length (needed h)) ≡ y → no_room_for N T R h k ≡ false
      go false e y f = rw e refl
      go true e false f = rw (e, f) refl
      go true e true f =
          let w = in_any (awaited h) (leaving k h.live) e in
          let a : suc (length (needed h)) ≤ N * T = one_more w.0 (those_in (numbered k) h.live w.0 w.1).0 w.2 in
          let c : R ≤ length (needed h) = leb-true _ _ f in
          absurd (omega arith)

-- a list of tests that does not come to 8
abbrev Not8 : List (Bool × ℕ) → Type 0
Not8 [] = Unit
Not8 (t ∷ ts) = ((t.0 ≡ false) ⊎ (t.1 ≡ 8 → ⊥)) × Not8 ts

not_8 : (ts : List (Bool × ℕ)) → Not8 ts → first_of ts ≡ some 8 → ⊥
unfolding first_of
not_8 [] n e = none-ne-some 8 e
not_8 (t ∷ ts) n e = go t.0 refl n.0 (not_8 ts n.1)
  where
    go : (b : Bool) → t.0 ≡ b → (t.0 ≡ false) ⊎ (t.1 ≡ 8 → ⊥) → (first_of ts ≡ some 8 → ⊥) → ⊥
    go false q x ih = ih (sym (rw q refl) ∙ e)
    go true q (inl x) ih = false≢true (sym x ∙ q)
    go true q (inr x) ih = x (some-injective t.1 8 (sym (rw q refl) ∙ e))

module _ (N T R : ℕ) (h : History) (r : (k : ℕ) → no_room_for N T R h k ≡ false) where
  apart : (n m : ℕ) → eqb n m ≡ false → n ≡ m → ⊥
  apart n m e = eqb-false n m e

  never_8 : (c : Call) → Not8 (reasons N T R h c)
  unfolding reasons
  never_8 (Call.opening n) = (inr (apart 3 8 refl), tt)
  never_8 (Call.change (Change.insert k b)) = (inr (apart 1 8 refl), (inr (apart 3 8 refl), (inr (apart 4 8 refl), (inr (apart 5 8 refl), (inr (apart 7 8 refl), tt)))))
  never_8 (Call.change (Change.modify k b)) = (inr (apart 1 8 refl), (inr (apart 3 8 refl), (inr (apart 4 8 refl), (inr (apart 6 8 refl), (inl (r k), tt)))))
  never_8 (Call.change (Change.delete k)) = (inr (apart 3 8 refl), (inr (apart 6 8 refl), (inl (r k), tt)))
  never_8 Call.begin = (inr (apart 9 8 refl), (inr (apart 11 8 refl), tt))
  never_8 (Call.next t b o) = (inr (apart 1 8 refl), (inr (apart 10 8 refl), tt))
  never_8 (Call.reading (Reading.peek t)) = (inr (apart 10 8 refl), tt)
  never_8 (Call.reading Reading.tally) = tt
  never_8 (Call.reading (Reading.owed t)) = (inr (apart 10 8 refl), tt)

eight : (c : Call) (j : ℕ) → refused_as c j ≡ Answer.refused 8 → j ≡ 8
unfolding refused_as
eight (Call.opening n) j e = cc
eight (Call.change c) j e = cc
eight Call.begin j e = cc
eight (Call.next t b o) j e = cc
eight (Call.reading (Reading.peek t)) j e = cc
eight (Call.reading Reading.tally) j e = cc
eight (Call.reading (Reading.owed t)) j e = cc

-- of any machine with demand 2
pub always_room : (M : Machine) → Demand2 M → AlwaysRoom M
unfolding AlwaysRoom
always_room M d o big cs ws c w e = go (reason o.n (table_slots o) (shelf_entries o) (past M o cs) c) refl
  where
    go : (x : Option ℕ) → reason o.n (table_slots o) (shelf_entries o) (past M o cs) c ≡ x → ⊥
    go none f = fulfilled (table_slots o) (shelf_entries o) (past M o cs) c _ _ (subst (λ (y : Option ℕ). Answers (table_slots o) (shelf_entries o) (past M o cs) y c (M (bytes_after M o cs) c).answer (M (bytes_after M o cs) c).out) f (d.answers o cs ws c w)) 8 e
    go (some j) f =
        let a : (M (bytes_after M o cs) c).answer ≡ refused_as c j = subst (λ (y : Option ℕ). Answers (table_slots o) (shelf_entries o) (past M o cs) y c (M (bytes_after M o cs) c).answer (M (bytes_after M o cs) c).out) f (d.answers o cs ws c w) in
        let t = any_told M d o cs ws in
        not_8 (reasons o.n (table_slots o) (shelf_entries o) (past M o cs) c) (never_8 o.n (table_slots o) (shelf_entries o) (past M o cs) (room o.n (table_slots o) (shelf_entries o) (past M o cs) t.0 t.1 big) c) (f ∙ ap some (eight c j (sym a ∙ e)))

pub room_of_ours : AlwaysRoom called
room_of_ours = always_room called demand_2
