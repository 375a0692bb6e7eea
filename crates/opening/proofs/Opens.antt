-- The way out of open, from what its steps ensure to the rule.
use mathlib.Core.Path.{◌≡◌, refl}
use mathlib.Core.Bool.{true}
use mathlib.Core.List.{List, []}
use Prim.Native.Nat.{ℕ, ◌/◌, ◌<◌}
use lib.ListN.{length, replicate}
use Rattle.rules.specs.Answers.{done}
use Rattle.rules.specs.Masks.{fresh}
use Rattle.rules.specs.Memory.{store_of, masks_bytes}
use Rattle.rules.specs.Next.{told}
use Rattle.rules.specs.Refusals.{Call, step}
use Rattle.rules.specs.Sound.{n_in_range}
use Rattle.layout.specs.Puts.{put, put32}
use Rattle.joins.proofs.Cases.{open_done}
use Rattle.joins.proofs.Opens.{opened-spelt}
use Rattle.joins.proofs.Slots.{slots-there, entries-there}

module _ (d t s : List ℕ) (n : ℕ) where
  pub opens : {d' t' s' : List ℕ} {a b : ℕ} → length d ≡ 1088 → n < 4294967296 → length t / 64 < 4294967296 → length s / 64 < 4294967296 → n_in_range n ≡ true
      → a ≡ length t / 64 → b ≡ length s / 64 → d' ≡ put (put32 (put32 (put32 (replicate (length d) 0) 0 n) 4 a) 8 b) 16 (masks_bytes fresh) → t' ≡ replicate (length t) 0 → s' ≡ replicate (length s) 0
      → told done (store_of d' t' s') [] ≡ step (store_of d t s) (Call.opening n)
  opens {d'} {t'} {s'} {a} {b} h sn st ss e ea eb ed et es =
      let x : d' ≡ put (put32 (put32 (put32 (replicate 1088 0) 0 n) 4 (length t / 64)) 8 (length s / 64)) 16 (masks_bytes fresh) = rw (ed, h, ea, eb) refl in
      rw (x, et, es, opened-spelt n (length t / 64) (length s / 64) sn st ss (length t) (length s) refl refl, ← slots-there d t s, ← entries-there d t s) (open_done (store_of d t s) n e)
