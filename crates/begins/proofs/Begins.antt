-- The ways out of begin, each from what its steps ensure to the rule.
use mathlib.Core.Path.{◌≡◌, refl, ◌∙◌}
use mathlib.Core.List.{List, []}
use Prim.Native.Nat.{ℕ, ◌+◌, ◌*◌, ◌≤◌, ◌<◌}
use native.Mathlib.Omega.{arith}
use lib.Bits.{and_le_l}
use lib.ListN.{length}
use Rattle.rules.specs.Answers.{begun, refused}
use Rattle.rules.specs.Bytes.{u32_at, u64_at}
use Rattle.rules.specs.Calls.{free_position, given}
use Rattle.rules.specs.Masks.{Masks, NOT, scan_mask, cleared, walk_begun}
use Rattle.rules.specs.Memory.{card, masks_of, desk_of, store_of, masks_bytes, card_bytes}
use Rattle.rules.specs.Next.{told}
use Rattle.rules.specs.Refusals.{Call, step}
use Rattle.rules.proofs.Bytes.{Bytes, u32_small, u64_small}
use Rattle.layout.specs.Puts.{put, put32}
use Rattle.joins.proofs.Cases.{begin_full, begin-last, begin-done}
use Rattle.joins.proofs.Desks.{begin-put}

-- where the lowest free position stands below N or at N, whatever stands in table and shelf
module _ (d t s : List ℕ) where
  pub begins_full : free_position (store_of d [] []) ≡ u32_at d 0 → told (refused 9) (store_of d t s) [] ≡ step (store_of d t s) Call.begin
  unfolding store_of desk_of
  begins_full e = begin_full (store_of d t s) (omega (arith, e))

  module _ (h : free_position (store_of d [] []) < u32_at d 0) where
    below : free_position (store_of d t s) < (store_of d t s).desk.n
    unfolding store_of desk_of
    below = h

    pub begins_last : u32_at d 12 ≡ 4294967295 → told (refused 11) (store_of d t s) [] ≡ step (store_of d t s) Call.begin
    unfolding store_of desk_of
    begins_last e = begin-last (store_of d t s) below e

    module _ {p g : ℕ} {m : Masks} (ep : p ≡ free_position (store_of d [] [])) (eg : g ≡ u32_at d 12) (e : g ≡ 4294967295 → ⊥) (nd : length d ≡ 1088) (bd : Bytes d) (hn : u32_at d 0 ≤ 64) (em : m ≡ masks_of d) where
      begun-put : desk_of (put (put (put32 d 12 (g + 1)) 16 (masks_bytes (walk_begun m p))) (64 + p * 16) (card_bytes (card (g + 1) 0 0 0))) ≡ (given (store_of d t s) p).desk
      unfolding given store_of desk_of walk_begun cleared
      begun-put =
          let sg : g + 1 < 4294967296 = omega (arith, eg, e, u32_small d 12 bd (omega arith)) in
          rw em
          (begin-put d (g + 1) (walk_begun (masks_of d) p) p (card (g + 1) 0 0 0) nd sg
          (u64_small d 16 bd (omega arith), omega (arith, and_le_l (u64_at d 24) (NOT 64 (scan_mask p)), u64_small d 24 bd (omega arith)), omega (arith, and_le_l (u64_at d 32) (NOT 64 (scan_mask p)), u64_small d 32 bd (omega arith)))
          (sg, omega arith, omega arith, omega arith) (omega arith)
          ∙ rw eg refl)

      pub begins : {d₁ d₂ : List ℕ} {x : ℕ} → x ≡ g + 1 → d₁ ≡ put32 d 12 (g + 1) → d₂ ≡ put (put d₁ 16 (masks_bytes (walk_begun m p))) (64 + p * 16) (card_bytes (card x 0 0 0))
          → told (begun x) (store_of d₂ t s) [] ≡ step (store_of d t s) Call.begin
      unfolding store_of given desk_of u32_at
      begins {d₁} {d₂} {x} ex e₁ e₂ =
          rw (e₂, e₁, ex, begun-put)
          (rw (eg, ep) (begin-done (store_of d t s) below (λ z. e (eg ∙ z))))
