-- What tally and owed count.
use mathlib.Core.Path.{◌≡◌, refl, sym, ap, ◌∙◌, subst}
use mathlib.Core.Bool.{Bool, true, false, not, ◌&&◌, cond, not-not}
use mathlib.Core.Option.{Option, none, some}
use mathlib.Core.List.Memᴰ
use mathlib.Core.List.{List, [], ◌∷◌, ◌++◌}
use mathlib.Core.Logic.{◌⊎◌, inl, inr}
use Prim.Native.Nat.{ℕ, suc, ◌+◌, ◌%◌, ◌≤◌, ◌<◌}
use native.Mathlib.Omega.{arith}
use lib.Dec.{eqb, ltb}
use lib.ListN.{length, get_or, length-append}
use borrow.Author.Tests.{eqb-false, eq-eqb, ne_eqb}
use Rattle.demands.specs.History.{Version, Scan, awaits, awaited, needed, waiting}
use Rattle.demands.specs.Lists.{those, standing}
use Rattle.demands.specs.Masks.{one_if}
use Rattle.demands.specs.RuleOfNext.{still_to_come}
use Rattle.rules.specs.Calls.{slot_in, in_use, count, used, owed_by}
use Rattle.rules.specs.Masks.{bit, off}
use Rattle.rules.specs.Memory.{Slot, T}
use Rattle.rules.proofs.Bits.{bit_low, bit-xor}
use Rattle.demands.proofs.lists.Apart.{Apart, apart-those}
use Rattle.demands.proofs.invariant.Invariant.{NumberOK, Inv, table_numbers, shelf_numbers, gt_length, gs_length, runs_at, position, seat, busy, slot_of, entry_of, live_at, beyond}
use Rattle.demands.proofs.invariant.Moment.{Moment, aw, aw_at}
use Rattle.demands.proofs.lists.Lists.{In, in_left, in_right, in_cases, any_in, those_in, in_those, those-none, those-those, those-same, perm_length, perm_those}
use Rattle.demands.proofs.history.Past.{ever, number_of, change_of, awaited-began}
use Rattle.demands.proofs.lists.Places.{At}

-- ---- slots that pass, and the versions that they hold

module _ (f : Slot → Bool) (p : Version → Bool) where
  abbrev pub Agrees : Slot → Option Version → Type 0
  Agrees s none = f s ≡ false
  Agrees s (some v) = f s ≡ p v

  count-one : (s : Slot) (l : List Slot) (b : Bool) → f s ≡ b → count f (s ∷ l) ≡ one_if b + count f l
  unfolding count
  count-one s l true e = rw (e, count) (omega arith)
  count-one s l false e = rw (e, count) (omega arith)

  pub count_is : (l : List Slot) (g : List (Option Version)) → length g ≡ length l → ((i : ℕ) → i < length l → Agrees (slot_in l i) (get_or g i none)) → count f l ≡ length (those p (standing g))
  unfolding count
  count_is [] [] e h = refl
  count_is [] (o ∷ g) e h = absurd (omega arith)
  count_is (s ∷ l) [] e h = absurd (omega arith)
  count_is (s ∷ l) (none ∷ g) e h = count-one s l false (h 0 (omega arith)) ∙ omega (arith, count_is l g (omega arith) (λ i k. h (suc i) (omega arith)))
  count_is (s ∷ l) (some v ∷ g) e h = count-one s l (p v) (h 0 (omega arith)) ∙ go (p v) (count_is l g (omega arith) (λ i k. h (suc i) (omega arith)))
    where
      go : (b : Bool) → count f l ≡ length (those p (standing g)) → one_if b + count f l ≡ length (cond b (v ∷ those p (standing g)) (those p (standing g)))
      go true ih = omega arith
      go false ih = omega arith

-- ---- lists with the same members, none of them twice

module _ {A : Type 0} where
  split_out : (a : A) (l : List A) → In a l → (f : List A) × (b : List A) × (l ≡ f ++ (a ∷ b))
  split_out a [] i = absurd (Memᴰ.not-nil i)
  split_out a (x ∷ l) i = go (Memᴰ.cases_cons i) (split_out a l)
    where
      go : (a ≡ x) ⊎ In a l → (In a l → (f : List A) × (b : List A) × (l ≡ f ++ (a ∷ b))) → (f : List A) × (b : List A) × (x ∷ l ≡ f ++ (a ∷ b))
      go (inl e) ih = ([], l, ap (λ (y : A). y ∷ l) (sym e))
      go (inr j) ih = let w = ih j in (x ∷ w.0, w.1, ap (λ (m : List A). x ∷ m) w.2)

  pub no_more : (name : A → ℕ) (l m : List A) → Apart name l → ((a : A) → In a l → In a m) → length l ≤ length m
  no_more name [] m h f = omega arith
  no_more name (x ∷ l) m h f =
      let w = split_out x m (f x (Memᴰ.head refl)) in
      let n : length l ≤ length (w.0 ++ w.1) = no_more name l (w.0 ++ w.1) h.1 (λ a i. into w.0 w.1 a (λ e. h.0 a i (ap name e)) (in_cases a w.0 (x ∷ w.1) (subst (λ (y : List A). In a y) w.2 (f a (Memᴰ.tail i))))) in
      let e : length m ≡ length w.0 + suc (length w.1) = ap length w.2 ∙ length-append w.0 (x ∷ w.1) in
      omega (arith, length-append w.0 w.1)
    where
      into : (f b : List A) (a : A) → (a ≡ x → ⊥) → In a f ⊎ In a (x ∷ b) → In a (f ++ b)
      into f b a d (inl i) = in_left a f b i
      into f b a d (inr i) = go (Memᴰ.cases_cons i)
        where
          go : (a ≡ x) ⊎ In a b → In a (f ++ b)
          go (inl e) = absurd (d e)
          go (inr j) = in_right a f b j

module _ {now : Moment} (q : Inv now) where
  use_agrees : (s : Slot) (o : Option Version) → NumberOK s o → Agrees in_use (λ v. true) s o
  use_agrees s none w = rw w refl
  use_agrees s (some v) w = rw (ne_eqb s.number 0 (λ z. let y : 1 ≤ s.number = w.1 in omega arith)) refl

  all_pass : (l : List Version) → those (λ v. true) l ≡ l
  all_pass [] = refl
  all_pass (v ∷ l) = ap (λ (m : List Version). v ∷ m) (all_pass l)

  pub records_are : used now.store.table ≡ length now.history.live
  records_are =
      count_is in_use (λ v. true) now.store.table now.table (gt_length q) (λ i k. use_agrees (slot_in now.store.table i) (get_or now.table i none) (table_numbers q i))
      ∙ ap length (all_pass (standing now.table)) ∙ perm_length (standing now.table) now.history.live q.tabled

  pub entries_are : used now.store.shelf ≡ length (needed now.history)
  entries_are =
      count_is in_use (λ v. true) now.store.shelf now.shelf (gs_length q) (λ i k. use_agrees (slot_in now.store.shelf i) (get_or now.shelf i none) (shelf_numbers q i))
      ∙ ap length (all_pass (standing now.shelf)) ∙ perm_length (standing now.shelf) (needed now.history) q.shelved

  -- ---- what a scan is owed

  module _ (p : ℕ) (s : Scan) (here : At now.seats p s) where
    hp : p < 64
    hp = position q p s here

    runs : In s now.history.running
    runs = runs_at q p s here

    abbrev in_table : Slot → Bool
    in_table x = in_use x && eqb (bit x.mask p) (bit now.store.desk.masks.stable p)

    abbrev on_shelf : Slot → Bool
    on_shelf x = in_use x && off x.mask p

    in_use_lem : (x : Slot) → 1 ≤ x.number → (b : Bool) → in_use x && b ≡ b
    in_use_lem x k b = rw (ne_eqb x.number 0 (λ z. omega arith)) refl

    not_in_use : (x : Slot) → x.number ≡ 0 → (b : Bool) → in_use x && b ≡ false
    not_in_use x e b = rw e refl

    -- equal bits, as their XOR
    equal_bits : (x y : ℕ) → x < 2 → y < 2 → (b : Bool) → (y + x) % 2 ≡ one_if b → eqb x y ≡ not b
    equal_bits x y hx hy true e = ne_eqb x y (λ z. omega arith)
    equal_bits x y hx hy false e = eq-eqb x y (omega arith)

    local_is : off now.store.desk.masks.local p ≡ ltb s.looks now.t
    local_is = sym (busy q p s here).local ∙ ap (λ (x : ℕ). ltb x (T now.store)) (seat q p s here).place ∙ ap (ltb s.looks) q.is_t

    table_agrees : (i : ℕ) (o : Option Version) → get_or now.table i none ≡ o → Agrees in_table (λ v. not (ltb s.looks now.t && not (awaits s v))) (slot_in now.store.table i) o
    table_agrees i none e = not_in_use (slot_in now.store.table i) (subst (NumberOK (slot_in now.store.table i)) e (table_numbers q i)) (eqb (bit (slot_in now.store.table i).mask p) (bit now.store.desk.masks.stable p))
    table_agrees i (some v) e =
        let w = slot_of q i v e in
        in_use_lem (slot_in now.store.table i) w.some (eqb (bit (slot_in now.store.table i).mask p) (bit now.store.desk.masks.stable p))
        ∙ equal_bits (bit (slot_in now.store.table i).mask p) (bit now.store.desk.masks.stable p) (bit_low (slot_in now.store.table i).mask p) (bit_low now.store.desk.masks.stable p) (ltb s.looks now.t && not (awaits s v))
        (sym (bit-xor now.store.desk.masks.stable (slot_in now.store.table i).mask p) ∙ w.bits p hp ∙ ap (λ (b : Bool). one_if (b && not (aw now p v))) local_is ∙ ap (λ (b : Bool). one_if (ltb s.looks now.t && not b)) (aw_at now p s here v))

    shelf_agrees : (i : ℕ) (o : Option Version) → get_or now.shelf i none ≡ o → Agrees on_shelf (awaits s) (slot_in now.store.shelf i) o
    shelf_agrees i none e = not_in_use (slot_in now.store.shelf i) (subst (NumberOK (slot_in now.store.shelf i)) e (shelf_numbers q i)) (off (slot_in now.store.shelf i).mask p)
    shelf_agrees i (some v) e =
        let w = entry_of q i v e in
        in_use_lem (slot_in now.store.shelf i) w.some (off (slot_in now.store.shelf i).mask p) ∙ ap (λ (x : ℕ). eqb x 0) (w.bits p hp ∙ ap (λ (b : Bool). one_if (not b)) (aw_at now p s here v)) ∙ go (awaits s v)
      where
        go : (b : Bool) → eqb (one_if (not b)) 0 ≡ b
        go true = refl
        go false = refl

    -- what is awaited is in the table or on the shelf, each version once
    waiting_is : length (those (awaits s) now.history.live) + length (those (awaits s) now.history.left) ≡ length (waiting s)
    waiting_is =
        let a : length (those (awaits s) (ever now.history)) ≤ length (waiting s) =
        no_more change_of (those (awaits s) (ever now.history)) (waiting s) (apart-those change_of (awaits s) (ever now.history) q.past.names)
        (λ v i. let w = those_in (awaits s) (ever now.history) v i in in_those (awaits s) s.began v (awaited-began now.history q.past s runs v w.0 w.1) w.1) in
        let b : length (waiting s) ≤ length (those (awaits s) (ever now.history)) =
        no_more number_of (waiting s) (those (awaits s) (ever now.history)) (apart-those number_of (awaits s) s.began (q.past.scans s runs).numbers)
        (λ v i. let w = those_in (awaits s) s.began v i in in_those (awaits s) (ever now.history) v ((q.past.scans s runs).from v w.0) w.1) in
        let c : length (those (awaits s) (ever now.history)) ≡ length (those (awaits s) now.history.live) + length (those (awaits s) now.history.left) = ap length (those-append now.history.live now.history.left) ∙ length-append (those (awaits s) now.history.live) (those (awaits s) now.history.left) in
        omega arith
      where
        those-append : (l m : List Version) → those (awaits s) (l ++ m) ≡ those (awaits s) l ++ those (awaits s) m
        those-append [] m = refl
        those-append (v ∷ l) m = go (awaits s v) (those-append l m)
          where
            go : (b : Bool) → those (awaits s) (l ++ m) ≡ those (awaits s) l ++ those (awaits s) m → cond b (v ∷ those (awaits s) (l ++ m)) (those (awaits s) (l ++ m)) ≡ cond b (v ∷ those (awaits s) l) (those (awaits s) l) ++ those (awaits s) m
            go true e = ap (λ (x : List Version). v ∷ x) e
            go false e = e

    shelf-count : count on_shelf now.store.shelf ≡ length (those (awaits s) now.history.left)
    unfolding awaited
    shelf-count =
        count_is on_shelf (awaits s) now.store.shelf now.shelf (gs_length q) (λ i k. shelf_agrees i (get_or now.shelf i none) refl)
        ∙ perm_length (those (awaits s) (standing now.shelf)) (those (awaits s) (needed now.history)) (perm_those (awaits s) (standing now.shelf) (needed now.history) q.shelved)
        ∙ ap length (those-those (awaited now.history) (awaits s) now.history.left (λ v e. any_in (λ u. awaits u v) now.history.running s runs e))

    table-count : count in_table now.store.table ≡ length (those (λ v. not (ltb s.looks now.t && not (awaits s v))) now.history.live)
    table-count =
        count_is in_table (λ v. not (ltb s.looks now.t && not (awaits s v))) now.store.table now.table (gt_length q) (λ i k. table_agrees i (get_or now.table i none) refl)
        ∙ perm_length _ _ (perm_those (λ v. not (ltb s.looks now.t && not (awaits s v))) (standing now.table) now.history.live q.tabled)

    -- past its table walk nothing in the table is awaited
    none-live : ltb s.looks now.t ≡ false → length (those (awaits s) now.history.live) ≡ 0
    none-live e =
        ap length (those-none (awaits s) now.history.live
        (λ v i. let w = live_at q v i in
        sym (aw_at now p s here v) ∙ beyond q w.0 v w.1 p hp (omega (arith, bit_low now.store.desk.masks.local p, eqb-false (bit now.store.desk.masks.local p) 0 (local_is ∙ e)))))

    pub owed_is : owed_by now.store p ≡ still_to_come now.t now.history s
    owed_is = rw (table-count, shelf-count) (go (ltb s.looks now.t) refl)
      where
        go : (b : Bool) → ltb s.looks now.t ≡ b → length (those (λ v. not (b && not (awaits s v))) now.history.live) + length (those (awaits s) now.history.left) ≡ cond b (length (waiting s)) (length now.history.live + length (waiting s))
        go true e = rw (those-same (λ v. not (not (awaits s v))) (awaits s) now.history.live (λ v i. not-not (awaits s v))) waiting_is
        go false e = rw (all_pass now.history.live) (omega (arith, waiting_is, none-live e))
