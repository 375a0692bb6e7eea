-- What becomes of the present version of a slot before it is changed, on flat bytes.
use Rattle.std.specs.Prelude.{Bool, true, false, List, ℕ, ◌+◌, ◌*◌, ◌/◌, ltb, length, Result, Ok, Err}
use Rattle.rules.specs.declared.Refusal.{Refusal}
use Rattle.rules.specs.Bytes.{field, u64_at}
use Rattle.rules.specs.Calls.{empty_slot}
use Rattle.rules.specs.Masks.{Masks, all_ones, m_of}
use Rattle.rules.specs.Memory.{slots_of}
use Rattle.layout.specs.Puts.{put, put64}
use Rattle.shelving.specs.declared.Kept.{Kept}

-- m of slot i of a table
abbrev pub m_in : Masks → List ℕ → ℕ → ℕ
m_in m t i = m_of m (u64_at t (i * 64 + 56))

-- the rules' `shelf_entry`, of the bytes of a shelf
abbrev pub entry_taken : List ℕ → ℕ
entry_taken s = empty_slot (slots_of s)

-- the version of slot i, with its m, in entry e
abbrev pub shelved_in : Masks → List ℕ → List ℕ → ℕ → ℕ → List ℕ
shelved_in m t s i e = put64 (put s (e * 64) (field 56 (i * 64) t)) (e * 64 + 56) (m_in m t i)

-- is the version unawaited; is there an empty entry
unfoldable pub keeps_by : Bool → Bool → Masks → List ℕ → List ℕ → ℕ → Result Kept Refusal × List ℕ
keeps_by true b m t s i = (Ok Kept.Unawaited, s)
keeps_by false false m t s i = (Err Refusal.ShelfFull, s)
keeps_by false true m t s i = (Ok Kept.Shelved, shelved_in m t s i (entry_taken s))

abbrev pub keeps : Masks → List ℕ → List ℕ → ℕ → Result Kept Refusal × List ℕ
keeps m t s i = keeps_by (all_ones 64 (m_in m t i)) (ltb (entry_taken s) (length s / 64)) m t s i
