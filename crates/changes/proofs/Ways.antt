-- The ways out of the changes' code, each from what its steps ensure to the rule.
use mathlib.Core.Path.{◌≡◌, refl, sym, ap, ◌∙◌}
use mathlib.Core.Bool.{true}
use mathlib.Core.List.{List, []}
use Prim.Native.Nat.{ℕ, ◌+◌, ◌*◌, ◌-◌, ◌/◌, ◌^◌, ◌≤◌, ◌<◌}
use native.Mathlib.Nat.{sub-zero}
use native.Mathlib.Omega.{arith}
use lib.Bits.{or_lt, xor_lt}
use lib.ListN.{length, replicate}
use Rattle.std.specs.Prelude.{Ok, Err}
use Rattle.rules.specs.declared.Refusal.{Refusal}
use Rattle.rules.specs.Answers.{done, refused, number_of}
use Rattle.rules.specs.Calls.{first, bearing, empty_slot, shelf_entry, m_at}
use Rattle.rules.specs.Masks.{Masks, ones, new_status, m_of, REMSET_MASK_INS}
use Rattle.rules.specs.Memory.{T, R, slots_of, masks_of, store_of}
use Rattle.rules.specs.Next.{told}
use Rattle.rules.specs.Refusals.{Call, Change, step, kind_right}
use Rattle.rules.proofs.Bytes.{Bytes, u64_small}
use Rattle.layout.specs.Puts.{put, put32, put64}
use Rattle.joins.specs.Search.{bears, bears_or_empty}
use Rattle.joins.proofs.Slots.{count, slots-there, entries-there}
use Rattle.joins.proofs.Search.{pass_number, pass_empty}
use Rattle.joins.proofs.Cases.{insert-there, insert_full, insert-done, modify_absent, modify-unawaited, modify-room, modify-awaited, delete_absent, delete-unawaited, delete-room, delete-awaited}
use Rattle.joins.proofs.Effects.{m_at_lem, inserted-spelt, modified-spelt, deleted-spelt, modified_shelved_spelt, deleted_shelved_spelt}
use Rattle.shelving.specs.declared.Kept.{Kept}
use Rattle.shelving.specs.Keeps.{m_in, entry_taken, keeps}
use Rattle.shelving.proofs.Keeps.{unawaited_says, shelved_says, no_room_says}

-- ---- the store that lent bytes spell

module _ (d t s : List ℕ) where
  bearing-there : (k : ℕ) → bearing (store_of d t s).table k ≡ first (bears (slots_of t) k) 0 (length t / 64)
  unfolding store_of
  bearing-there k = rw (count t) refl

  empty-there : empty_slot (store_of d t s).table ≡ first (bears (slots_of t) 0) 0 (length t / 64)
  unfolding store_of
  empty-there = rw (count t) refl

  entry-there : shelf_entry (store_of d t s) ≡ entry_taken s
  unfolding store_of
  entry-there = refl

-- ---- insert

module _ (d t s : List ℕ) (k : ℕ) (b : List ℕ) (z : k ≡ 0 → ⊥) (e : kind_right b ≡ true) (stop : ℕ) (es : stop ≡ first (bears_or_empty (slots_of t) k) 0 (length t / 64)) where
  -- the search for the number goes on from there
  abbrev at : ℕ
  at = first (bears (slots_of t) k) stop (length t / 64 - stop)

  found : bearing (store_of d t s).table k ≡ at
  found = bearing-there d t s k ∙ pass_number (bears (slots_of t) k) (bears (slots_of t) 0) (length t / 64) ∙ ap (λ (x : ℕ). first (bears (slots_of t) k) x (length t / 64 - x)) (sym es)

  pub inserts_there : at < length t / 64 → told (refused 5) (store_of d t s) [] ≡ step (store_of d t s) (Call.change (Change.insert k b))
  inserts_there h = insert-there (store_of d t s) k b z e (rw (found, slots-there d t s) h)

  module _ (h : length t / 64 ≤ at) where
    empty : empty_slot (store_of d t s).table ≡ stop
    empty = empty-there d t s ∙ sym (es ∙ pass_empty (bears (slots_of t) k) (bears (slots_of t) 0) (length t / 64) (omega (arith, h, sym (bearing-there d t s k) ∙ found)))

    not_there : T (store_of d t s) ≤ bearing (store_of d t s).table k
    not_there = rw (found, slots-there d t s) h

    full : length t / 64 ≤ stop → told (refused 7) (store_of d t s) [] ≡ step (store_of d t s) (Call.change (Change.insert k b))
    full g = insert_full (store_of d t s) k b z e not_there (rw (empty, slots-there d t s) g)

    pub inserts : {t' : List ℕ} {st : ℕ} {m : Masks} → stop < length t / 64 → k < 4294967296 → length b ≡ 52 → m ≡ masks_of d → st ≡ new_status m
        → t' ≡ put64 (put (put32 t (stop * 64) k) (stop * 64 + 4) b) (stop * 64 + 56) st → told done (store_of d t' s) [] ≡ step (store_of d t s) (Call.change (Change.insert k b))
    unfolding store_of
    inserts {t'} {st} {m} g sk eb em est et =
        rw (et, est, em, inserted-spelt d t s stop g k b sk eb empty) (insert-done (store_of d t s) k b z e not_there (rw (empty, slots-there d t s) g))

  -- at the end of the table nothing is left to search
  pub inserts_full : length t / 64 ≤ stop → told (refused 7) (store_of d t s) [] ≡ step (store_of d t s) (Call.change (Change.insert k b))
  unfolding first
  inserts_full g = let none : length t / 64 - stop ≡ 0 = omega arith in full (rw none g) g

-- ---- modify and delete

-- slot i bears the number, and the masks are the desk's
module _ (d t s : List ℕ) (k i : ℕ) (ei : i ≡ first (bears (slots_of t) k) 0 (length t / 64 - 0)) where
  bearer : bearing (store_of d t s).table k ≡ i
  bearer = bearing-there d t s k ∙ sym (ei ∙ ap (first (bears (slots_of t) k) 0) (sub-zero (length t / 64)))

  absent : length t / 64 ≤ i → T (store_of d t s) ≤ bearing (store_of d t s).table k
  absent h = rw (bearer, slots-there d t s) h

  pub modifies_absent : (b : List ℕ) → (k ≡ 0 → ⊥) → kind_right b ≡ true → length t / 64 ≤ i → told (refused 6) (store_of d t s) [] ≡ step (store_of d t s) (Call.change (Change.modify k b))
  modifies_absent b z e h = modify_absent (store_of d t s) k b z e (absent h)

  pub deletes_absent : (k ≡ 0 → ⊥) → length t / 64 ≤ i → told (refused 6) (store_of d t s) [] ≡ step (store_of d t s) (Call.change (Change.delete k))
  deletes_absent z h = delete_absent (store_of d t s) k z (absent h)

  module _ (hi : i < length t / 64) {m : Masks} (em : m ≡ masks_of d) where
    there : bearing (store_of d t s).table k < T (store_of d t s)
    there = rw (bearer, slots-there d t s) hi

    m_here : m_in m t i ≡ m_at (store_of d t s) (bearing (store_of d t s).table k)
    m_here = rw (em, bearer) (m_at_lem d t s i hi)

    -- no scan awaits the version
    module _ {s' : List ℕ} (kept : (Ok Kept.Unawaited, s') ≡ keeps m t s i) where
      all_ones : m_at (store_of d t s) (bearing (store_of d t s).table k) ≡ ones 64
      all_ones = sym m_here ∙ (unawaited_says m t s s' i kept).0

      pub modifies_unawaited : (b : List ℕ) → (k ≡ 0 → ⊥) → kind_right b ≡ true → length b ≡ 52 → {t' : List ℕ} → t' ≡ put t (i * 64 + 4) b
          → told done (store_of d t' s') [] ≡ step (store_of d t s) (Call.change (Change.modify k b))
      modifies_unawaited b z e eb et =
          rw (et, (unawaited_says m t s s' i kept).1, modified-spelt d t s i hi b eb, ← bearer) (modify-unawaited (store_of d t s) k b z e there all_ones)

      pub deletes_unawaited : (k ≡ 0 → ⊥) → {t' : List ℕ} → t' ≡ put t (i * 64) (replicate 64 0) → told done (store_of d t' s') [] ≡ step (store_of d t s) (Call.change (Change.delete k))
      deletes_unawaited z et = rw (et, (unawaited_says m t s s' i kept).1, deleted-spelt d t s i hi, ← bearer) (delete-unawaited (store_of d t s) k z there all_ones)

    -- it is awaited and no entry is empty
    module _ {s' : List ℕ} {r : Refusal} (kept : (Err r, s') ≡ keeps m t s i) where
      awaited_full : m_at (store_of d t s) (bearing (store_of d t s).table k) ≡ ones 64 → ⊥
      awaited_full x = (no_room_says m t s s' i kept).1 (m_here ∙ x)

      no_entry : R (store_of d t s) ≤ shelf_entry (store_of d t s)
      no_entry = rw (entry-there d t s, entries-there d t s) (no_room_says m t s s' i kept).2

      pub modifies_room : (b : List ℕ) → (k ≡ 0 → ⊥) → kind_right b ≡ true → told (refused (number_of r)) (store_of d t s') [] ≡ step (store_of d t s) (Call.change (Change.modify k b))
      unfolding number_of
      modifies_room b z e = rw ((no_room_says m t s s' i kept).0, (no_room_says m t s s' i kept).3) (modify-room (store_of d t s) k b z e there awaited_full no_entry)

      pub deletes_room : (k ≡ 0 → ⊥) → told (refused (number_of r)) (store_of d t s') [] ≡ step (store_of d t s) (Call.change (Change.delete k))
      unfolding number_of
      deletes_room z = rw ((no_room_says m t s s' i kept).0, (no_room_says m t s s' i kept).3) (delete-room (store_of d t s) k z there awaited_full no_entry)

    -- it is awaited and shelved
    module _ {s' : List ℕ} (kept : (Ok Kept.Shelved, s') ≡ keeps m t s i) (nd : length d ≡ 1088) (bd : Bytes d) (bt : Bytes t) where
      awaited : m_at (store_of d t s) (bearing (store_of d t s).table k) ≡ ones 64 → ⊥
      awaited x = (shelved_says m t s s' i kept).0 (m_here ∙ x)

      has_entry : entry_taken s < length s / 64
      has_entry = (shelved_says m t s s' i kept).1

      some-entry : shelf_entry (store_of d t s) < R (store_of d t s)
      some-entry = rw (entry-there d t s, entries-there d t s) has_entry

      m_small : m_in m t i < 2 ^ 64
      unfolding m_of REMSET_MASK_INS
      m_small = rw em (or_lt 64 _ _ (xor_lt 64 _ _ (u64_small d 16 bd (omega arith)) (u64_small t (i * 64 + 56) bt (omega arith))) (u64_small d 32 bd (omega arith)))

      pub modifies_shelved : (b : List ℕ) → (k ≡ 0 → ⊥) → kind_right b ≡ true → length b ≡ 52 → {t₁ t₂ : List ℕ} {st : ℕ} → t₁ ≡ put t (i * 64 + 4) b → st ≡ new_status m → t₂ ≡ put64 t₁ (i * 64 + 56) st
          → told done (store_of d t₂ s') [] ≡ step (store_of d t s) (Call.change (Change.modify k b))
      modifies_shelved b z e eb e₁ es e₂ =
          rw (e₂, e₁, es, (shelved_says m t s s' i kept).2)
          (rw (em) (rw (modified_shelved_spelt d t s i hi (entry_taken s) (m_in (masks_of d) t i) has_entry (entry-there d t s) (rw em at m_small) (rw (em, bearer) at m_here) b eb, ← bearer)
          (modify-awaited (store_of d t s) k b z e there awaited some-entry)))

      pub deletes_shelved : (k ≡ 0 → ⊥) → {t' : List ℕ} → t' ≡ put t (i * 64) (replicate 64 0) → told done (store_of d t' s') [] ≡ step (store_of d t s) (Call.change (Change.delete k))
      deletes_shelved z et =
          rw (et, (shelved_says m t s s' i kept).2)
          (rw (em) (rw (deleted_shelved_spelt d t s i hi (entry_taken s) (m_in (masks_of d) t i) has_entry (entry-there d t s) (rw em at m_small) (rw (em, bearer) at m_here), ← bearer)
          (delete-awaited (store_of d t s) k z there awaited some-entry)))

    -- delete: whatever became of the version
    pub deletes : (kept : Kept) {s' : List ℕ} → (Ok kept, s') ≡ keeps m t s i → length d ≡ 1088 → Bytes d → Bytes t → (k ≡ 0 → ⊥) → {t' : List ℕ} → t' ≡ put t (i * 64) (replicate 64 0)
        → told done (store_of d t' s') [] ≡ step (store_of d t s) (Call.change (Change.delete k))
    deletes Kept.Unawaited e nd bd bt z et = deletes_unawaited e z et
    deletes Kept.Shelved e nd bd bt z et = deletes_shelved e nd bd bt z et
