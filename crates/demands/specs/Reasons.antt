-- The reasons for which document 01 lets a call be refused, in the words of the calls and their answers.
use Rattle.std.specs.Prelude.{Bool, not, ◌&&◌, List, [], ◌∷◌, ℕ, eqb, leb, length}
use Rattle.std.proofs.Math.Option.{Option}
use Rattle.demands.specs.History.{History, awaited, needed, leaving, is_live, runs}
use Rattle.demands.specs.Lists.{any}
use Rattle.rules.specs.Refusals.{Call, Change, Reading, first_of, kind_right}
use Rattle.rules.specs.Sound.{n_in_range}

-- a store of N positions, T slots and R entries
module _ (N T R : ℕ) where
  -- 7: T records are live
  abbrev pub table_full : History → Bool
  table_full h = leb T (length h.live)

  -- 8: the present version is awaited, and R versions are needed
  abbrev pub no_room_for : History → ℕ → Bool
  no_room_for h k = any (awaited h) (leaving k h.live) && leb R (length (needed h))

  -- 9: N scans run
  abbrev pub all_run : History → Bool
  all_run h = leb N (length h.running)

  -- 11: every ticket has been given
  abbrev pub tickets_spent : History → Bool
  tickets_spent h = leb 4294967295 h.given

  -- in the order of their numbers; 10 is a ticket that was never given, or whose scan has finished
  unfoldable pub reasons : History → Call → List (Bool × ℕ)
  reasons h (Call.opening n) = (not (n_in_range n), 3) ∷ []
  reasons h (Call.change (Change.insert k b)) = (not (eqb (length b) 52), 1) ∷ (eqb k 0, 3) ∷ (not (kind_right b), 4) ∷ (is_live h k, 5) ∷ (table_full h, 7) ∷ []
  reasons h (Call.change (Change.modify k b)) = (not (eqb (length b) 52), 1) ∷ (eqb k 0, 3) ∷ (not (kind_right b), 4) ∷ (not (is_live h k), 6) ∷ (no_room_for h k, 8) ∷ []
  reasons h (Call.change (Change.delete k)) = (eqb k 0, 3) ∷ (not (is_live h k), 6) ∷ (no_room_for h k, 8) ∷ []
  reasons h Call.begin = (all_run h, 9) ∷ (tickets_spent h, 11) ∷ []
  reasons h (Call.next t b o) = (not (eqb (length o) 56), 1) ∷ (not (runs h t), 10) ∷ []
  reasons h (Call.reading (Reading.peek t)) = (not (runs h t), 10) ∷ []
  reasons h (Call.reading Reading.tally) = []
  reasons h (Call.reading (Reading.owed t)) = (not (runs h t), 10) ∷ []

  -- the lowest reason that holds
  abbrev pub reason : History → Call → Option ℕ
  reason h c = first_of (reasons h c)
