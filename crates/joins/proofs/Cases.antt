-- What a call gives on a sound desk, case by case: one law for each way out of its code.
use mathlib.Core.Path.{◌≡◌, refl}
use mathlib.Core.Bool.{true, false}
use mathlib.Core.Option.{none, some}
use mathlib.Core.List.{List, []}
use Prim.Native.Nat.{ℕ, ◌+◌, ◌≤◌, ◌<◌}
use borrow.Author.Tests.{lt-ltb, le-ltb, eq-eqb, ne_eqb}
use Rattle.rules.specs.Answers.{Answer, Shown, done, begun, refused}
use Rattle.rules.specs.Calls.{bearing, empty_slot, shelf_entry, free_position, position_of, opened, inserted, m_at, changed_by, given, used, owed_by}
use Rattle.rules.specs.Masks.{ones}
use Rattle.rules.specs.Memory.{Store, T, R}
use Rattle.rules.specs.Next.{told, walk, peeked}
use Rattle.rules.specs.Refusals.{Call, Change, Reading, first_of, own_refusals, kind_right, effect, refused_as, out_of, settled, no_scan, step}
use Rattle.rules.specs.Sound.{n_in_range}

module _ (S : Store) where
  -- ---- open
  pub open_range : (n : ℕ) → n_in_range n ≡ false → told (refused 3) S [] ≡ step S (Call.opening n)
  unfolding step settled own_refusals first_of refused_as out_of
  open_range n e = rw e refl

  pub open_done : (n : ℕ) → n_in_range n ≡ true → told done (opened n (T S) (R S)) [] ≡ step S (Call.opening n)
  unfolding step settled own_refusals first_of effect
  open_done n e = rw e refl

  -- ---- insert
  module _ (k : ℕ) (b : List ℕ) where
    pub insert-zero : k ≡ 0 → told (refused 3) S [] ≡ step S (Call.change (Change.insert k b))
    unfolding step settled own_refusals first_of refused_as out_of
    insert-zero z = rw (eq-eqb _ _ z) refl

    pub insert_kind : (k ≡ 0 → ⊥) → kind_right b ≡ false → told (refused 4) S [] ≡ step S (Call.change (Change.insert k b))
    unfolding step settled own_refusals first_of refused_as out_of
    insert_kind z e = rw (ne_eqb _ _ z, e) refl

    module _ (z : k ≡ 0 → ⊥) (e : kind_right b ≡ true) where
      pub insert-there : bearing S.table k < T S → told (refused 5) S [] ≡ step S (Call.change (Change.insert k b))
      unfolding step settled own_refusals first_of refused_as out_of
      insert-there h = rw (ne_eqb _ _ z, e, lt-ltb _ _ h) refl

      module _ (h : T S ≤ bearing S.table k) where
        pub insert_full : T S ≤ empty_slot S.table → told (refused 7) S [] ≡ step S (Call.change (Change.insert k b))
        unfolding step settled own_refusals first_of refused_as out_of
        insert_full g = rw (ne_eqb _ _ z, e, le-ltb _ _ h, le-ltb _ _ g) refl

        pub insert-done : empty_slot S.table < T S → told done (inserted S k b) [] ≡ step S (Call.change (Change.insert k b))
        unfolding step settled own_refusals first_of effect
        insert-done g = rw (ne_eqb _ _ z, e, le-ltb _ _ h, lt-ltb _ _ g) refl

  -- ---- modify
  module _ (k : ℕ) (b : List ℕ) where
    pub modify-zero : k ≡ 0 → told (refused 3) S [] ≡ step S (Call.change (Change.modify k b))
    unfolding step settled own_refusals first_of refused_as out_of
    modify-zero z = rw (eq-eqb _ _ z) refl

    pub modify_kind : (k ≡ 0 → ⊥) → kind_right b ≡ false → told (refused 4) S [] ≡ step S (Call.change (Change.modify k b))
    unfolding step settled own_refusals first_of refused_as out_of
    modify_kind z e = rw (ne_eqb _ _ z, e) refl

    module _ (z : k ≡ 0 → ⊥) (e : kind_right b ≡ true) where
      pub modify_absent : T S ≤ bearing S.table k → told (refused 6) S [] ≡ step S (Call.change (Change.modify k b))
      unfolding step settled own_refusals first_of refused_as out_of
      modify_absent h = rw (ne_eqb _ _ z, e, le-ltb _ _ h) refl

      module _ (h : bearing S.table k < T S) where
        pub modify-unawaited : m_at S (bearing S.table k) ≡ ones 64 → told done (changed_by true S (bearing S.table k) (some b)) [] ≡ step S (Call.change (Change.modify k b))
        unfolding step settled own_refusals first_of effect
        modify-unawaited m = rw (ne_eqb _ _ z, e, lt-ltb _ _ h, eq-eqb _ _ m) (rw (eq-eqb _ _ m) refl)

        module _ (m : m_at S (bearing S.table k) ≡ ones 64 → ⊥) where
          pub modify-room : R S ≤ shelf_entry S → told (refused 8) S [] ≡ step S (Call.change (Change.modify k b))
          unfolding step settled own_refusals first_of refused_as out_of
          modify-room g = rw (ne_eqb _ _ z, e, lt-ltb _ _ h, ne_eqb _ _ m, le-ltb _ _ g) refl

          pub modify-awaited : shelf_entry S < R S → told done (changed_by false S (bearing S.table k) (some b)) [] ≡ step S (Call.change (Change.modify k b))
          unfolding step settled own_refusals first_of effect
          modify-awaited g = rw (ne_eqb _ _ z, e, lt-ltb _ _ h, ne_eqb _ _ m, lt-ltb _ _ g) (rw (ne_eqb _ _ m) refl)

  -- ---- delete
  module _ (k : ℕ) where
    pub delete-zero : k ≡ 0 → told (refused 3) S [] ≡ step S (Call.change (Change.delete k))
    unfolding step settled own_refusals first_of refused_as out_of
    delete-zero z = rw (eq-eqb _ _ z) refl

    module _ (z : k ≡ 0 → ⊥) where
      pub delete_absent : T S ≤ bearing S.table k → told (refused 6) S [] ≡ step S (Call.change (Change.delete k))
      unfolding step settled own_refusals first_of refused_as out_of
      delete_absent h = rw (ne_eqb _ _ z, le-ltb _ _ h) refl

      module _ (h : bearing S.table k < T S) where
        pub delete-unawaited : m_at S (bearing S.table k) ≡ ones 64 → told done (changed_by true S (bearing S.table k) none) [] ≡ step S (Call.change (Change.delete k))
        unfolding step settled own_refusals first_of effect
        delete-unawaited m = rw (ne_eqb _ _ z, lt-ltb _ _ h, eq-eqb _ _ m) (rw (eq-eqb _ _ m) refl)

        module _ (m : m_at S (bearing S.table k) ≡ ones 64 → ⊥) where
          pub delete-room : R S ≤ shelf_entry S → told (refused 8) S [] ≡ step S (Call.change (Change.delete k))
          unfolding step settled own_refusals first_of refused_as out_of
          delete-room g = rw (ne_eqb _ _ z, lt-ltb _ _ h, ne_eqb _ _ m, le-ltb _ _ g) refl

          pub delete-awaited : shelf_entry S < R S → told done (changed_by false S (bearing S.table k) none) [] ≡ step S (Call.change (Change.delete k))
          unfolding step settled own_refusals first_of effect
          delete-awaited g = rw (ne_eqb _ _ z, lt-ltb _ _ h, ne_eqb _ _ m, lt-ltb _ _ g) (rw (ne_eqb _ _ m) refl)

  -- ---- begin
  pub begin_full : S.desk.n ≤ free_position S → told (refused 9) S [] ≡ step S Call.begin
  unfolding step settled own_refusals first_of refused_as out_of
  begin_full h = rw (le-ltb _ _ h) refl

  pub begin-last : free_position S < S.desk.n → S.desk.last ≡ 4294967295 → told (refused 11) S [] ≡ step S Call.begin
  unfolding step settled own_refusals first_of refused_as out_of
  begin-last h e = rw (lt-ltb _ _ h, eq-eqb _ _ e) refl

  pub begin-done : free_position S < S.desk.n → (S.desk.last ≡ 4294967295 → ⊥) → told (begun (S.desk.last + 1)) (given S (free_position S)) [] ≡ step S Call.begin
  unfolding step settled own_refusals first_of effect
  begin-done h e = rw (lt-ltb _ _ h, ne_eqb _ _ e) refl

  -- ---- the calls of a scan, where a ticket has none and where it has one
  module _ (ticket : ℕ) where
    module _ (none : no_scan S ticket ≡ true) where
      pub next-none : (b : ℕ) (o : List ℕ) → told (refused 10) S o ≡ step S (Call.next ticket b o)
      unfolding step settled own_refusals first_of refused_as out_of
      next-none b o = rw none refl

      pub peek-none : told (Answer.shown (Shown.part [])) S [] ≡ step S (Call.reading (Reading.peek ticket))
      unfolding step settled own_refusals first_of refused_as out_of
      peek-none = rw none refl

      pub owed_none : told (refused 10) S [] ≡ step S (Call.reading (Reading.owed ticket))
      unfolding step settled own_refusals first_of refused_as out_of
      owed_none = rw none refl

    module _ (one : no_scan S ticket ≡ false) where
      pub next-goes : (b : ℕ) (o : List ℕ) → walk S (position_of S ticket) b 0 o ≡ step S (Call.next ticket b o)
      unfolding step settled own_refusals first_of effect
      next-goes b o = rw one refl

      pub peek-goes : told (Answer.shown (Shown.part (peeked S ticket))) S [] ≡ step S (Call.reading (Reading.peek ticket))
      unfolding step settled own_refusals first_of effect
      peek-goes = rw one refl

      pub owed-goes : told (Answer.shown (Shown.owing (owed_by S (position_of S ticket)))) S [] ≡ step S (Call.reading (Reading.owed ticket))
      unfolding step settled own_refusals first_of effect
      owed-goes = rw one refl

  pub tally-done : told (Answer.shown (Shown.counted (used S.table) (used S.shelf))) S [] ≡ step S (Call.reading Reading.tally)
  unfolding step settled own_refusals first_of effect
  tally-done = refl
