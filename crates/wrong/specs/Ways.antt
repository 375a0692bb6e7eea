-- Stores like document 01's: what one of them does in its own way, and the machine that it then is.
use Rattle.std.proofs.Math.Option.{Option, none, some}
use Rattle.std.specs.Prelude.{List, [], ℕ, ◌+◌}
use Rattle.demands.specs.Machine.{Machine}
use Rattle.rules.specs.Answers.{Answer, Shown}
use Rattle.rules.specs.Calls.{free_position, position_of, given, owed_by}
use Rattle.rules.specs.Masks.{Masks, walk_ended}
use Rattle.rules.specs.Memory.{Lent, Store, T, R, read}
use Rattle.rules.specs.Next.{Told, told}
use Rattle.rules.specs.Refusals.{Call, Change, Reading, Refusals, Reply, first_of, refusals, changes_to, shows, effect, refused_as, out_of, reply, written_all}
use Rattle.wrong.specs.Walk.{walk}

pub record Ways : Type 0 where
  -- the tests of a call, in their order
  pub refuses : Lent → Call → Refusals
  -- the store after a change, and after a begin
  pub changes : Store → Change → Store
  pub begins : Store → Store
  -- the position that the scan of a card uses
  pub position : Store → ℕ → ℕ
  -- the masks after the end of a table walk at a position
  pub ends : Masks → ℕ → Masks

abbrev pub ways : (Lent → Call → Refusals) → (Store → Change → Store) → (Store → Store) → (Store → ℕ → ℕ) → (Masks → ℕ → Masks) → Ways
ways r c b p e = record { refuses = r; changes = c; begins = b; position = p; ends = e }

-- document 01's: the lowest free position is given, and a card's number is its scan's position
abbrev pub begun : Store → Store
begun S = given S (free_position S)

abbrev pub itself : Store → ℕ → ℕ
itself S p = p

abbrev pub ours : Ways
ours = ways refusals changes_to begun itself walk_ended

module _ (w : Ways) where
  abbrev pub walk_by : Store → ℕ → ℕ → ℕ → List ℕ → Told
  walk_by = walk w.position w.ends

  abbrev pub shows_by : Store → Reading → Shown
  shows_by S (Reading.peek ticket) = Shown.part (walk_by S (position_of S ticket) (T S + R S) 0 []).out
  shows_by S Reading.tally = shows S Reading.tally
  shows_by S (Reading.owed ticket) = Shown.owing (owed_by S (w.position S (position_of S ticket)))

  unfoldable pub effect_by : Store → Call → Told
  effect_by S (Call.opening n) = effect S (Call.opening n)
  effect_by S (Call.change c) = told Answer.done (w.changes S c) []
  effect_by S Call.begin = told (Answer.begun (S.desk.last + 1)) (w.begins S) []
  effect_by S (Call.next ticket b o) = walk_by S (position_of S ticket) b 0 o
  effect_by S (Call.reading r) = told (Answer.shown (shows_by S r)) S []

  unfoldable pub replied_by : Option ℕ → Lent → Call → Reply
  replied_by (some j) l c = reply (refused_as c j) l (out_of c)
  replied_by none l c = written_all (effect_by (read l) c)

  -- refused by the first test that holds, else its effect
  unfoldable pub called_by : Machine
  called_by l c = replied_by (first_of (w.refuses l c)) l c
