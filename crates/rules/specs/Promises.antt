-- What the contracts of the calls say of the buffers, as they are lent and as they come back.
-- A buffer that is lent as `&` comes back as it was; of one lent as `&mut` a contract says every byte.
use Rattle.std.specs.Prelude.{List, [], ◌≡◌, ℕ, ◌+◌, ◌*◌, ◌-◌, ◌≤◌, ◌<◌}
use Rattle.std.specs.Borrow.{Bor}
use Rattle.rules.specs.Answers.{Answer}
use Rattle.rules.specs.Memory.{Lent, lent, Store, T, store_of}
use Rattle.rules.specs.Next.{told, peeked_at}
use Rattle.rules.specs.Refusals.{Call, step, reply, called, returned, packed_reply}

-- a buffer at the entry of a call and at its exit
pub record Buffer : Type 0 where
  pub entry : List ℕ
  pub exit : List ℕ

-- one that is lent as `&`, one that is lent as `&mut`
abbrev pub kept : List ℕ → Buffer
kept l = record { entry = l; exit = l }

abbrev pub rewritten : List ℕ → List ℕ → Buffer
rewritten l m = record { entry = l; exit = m }

abbrev pub before : Buffer → Buffer → Buffer → Lent
before d t s = lent d.entry t.entry s.entry

abbrev pub after : Buffer → Buffer → Buffer → Lent
after d t s = lent d.exit t.exit s.exit

-- a call for Rattle callers answers, and leaves every byte, as the rules have it; next besides in its hand-out buffer
abbrev pub Answers : Answer → Buffer → Buffer → Buffer → Call → Type 0
Answers a d t s c = reply a (after d t s) [] ≡ called (before d t s) c

abbrev pub HandsOut : Answer → Buffer → Buffer → Buffer → Buffer → Call → Type 0
HandsOut a d t s o c = reply a (after d t s) o.exit ≡ called (before d t s) c

-- an exported call returns the number of that answer
abbrev pub Returns : ℕ → Buffer → Buffer → Buffer → Call → Type 0
Returns n d t s c = returned n (after d t s) [] ≡ packed_reply (called (before d t s) c)

abbrev pub ReturnsOut : ℕ → Buffer → Buffer → Buffer → Buffer → Call → Type 0
ReturnsOut n d t s o c = returned n (after d t s) o.exit ≡ packed_reply (called (before d t s) c)

-- ---- inner calls, once the way in is open: of stores, as the buffers hold them

-- the store at the entry of a call, and at its exit
abbrev pub stood : Buffer → Buffer → Buffer → Store
stood d t s = store_of d.entry t.entry s.entry

abbrev pub stands : Buffer → Buffer → Buffer → Store
stands d t s = store_of d.exit t.exit s.exit

-- such a call answers, and leaves the store, as the rule has it; next besides in its hand-out buffer
abbrev pub Tells : Answer → Buffer → Buffer → Buffer → Call → Type 0
Tells a d t s c = told a (stands d t s) [] ≡ step (stood d t s) c

abbrev pub TellsOut : Answer → Buffer → Buffer → Buffer → Buffer → Call → Type 0
TellsOut a d t s o c = told a (stands d t s) o.exit ≡ step (stood d t s) c

-- the same of a call that has no look at the shelf, at neither table nor shelf, or not at the desk: whatever stands there
abbrev pub TellsOverAnyShelf : Answer → Buffer → Buffer → Call → Type 0
TellsOverAnyShelf a d t c = (s : List ℕ) → told a (store_of d.exit t.exit s) [] ≡ step (store_of d.entry t.entry s) c

abbrev pub TellsOverAnySlots : Answer → Buffer → Call → Type 0
TellsOverAnySlots a d c = (t s : List ℕ) → told a (store_of d.exit t s) [] ≡ step (store_of d.entry t s) c

abbrev pub TellsUnderAnyDesk : Answer → Buffer → Buffer → Call → Type 0
TellsUnderAnyDesk a t s c = (d : List ℕ) → told a (store_of d t.exit s.exit) [] ≡ step (store_of d t.entry s.entry) c

-- ---- peek's part is no copy: unless it is empty it starts where the slot or the entry of the record starts that it shows

abbrev pub StartsAt : Bor (List ℕ) → Bor (List ℕ) → ℕ → Type 0
StartsAt part b i = part.ref_ptr ≡ (b.ref_ptr.0, i * 64 + b.ref_ptr.1)

-- "place T + k is shelf entry k"
pub record LiesAt (part t s : Bor (List ℕ)) (slots q : ℕ) : Type 0 where
  pub in_table : q < slots → StartsAt part t q
  pub on_shelf : slots ≤ q → StartsAt part s (q - slots)

abbrev pub NoCopy : Bor (List ℕ) → Bor (List ℕ) → Bor (List ℕ) → Bor (List ℕ) → ℕ → Type 0
NoCopy part d t s ticket = (part.now ≡ [] → ⊥) → LiesAt part t s (T (store_of d.now t.now s.now)) (peeked_at (store_of d.now t.now s.now) ticket)
