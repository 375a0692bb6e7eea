-- The store of document 01 but for one fault: it never starts a scan. A begin that document 01 accepts is refused by 9.
use Rattle.std.specs.Prelude.{true, [], ◌∷◌, ◌++◌}
use Rattle.demands.specs.Machine.{Machine}
use Rattle.rules.specs.Masks.{walk_ended}
use Rattle.rules.specs.Memory.{Lent}
use Rattle.rules.specs.Refusals.{Call, Refusals, refusals, changes_to}
use Rattle.wrong.specs.Ways.{Ways, ways, begun, itself, called_by}

unfoldable pub none_free : Lent → Call → Refusals
none_free l (Call.opening n) = refusals l (Call.opening n)
none_free l (Call.change c) = refusals l (Call.change c)
none_free l Call.begin = refusals l Call.begin ++ ((true, 9) ∷ [])
none_free l (Call.next t b o) = refusals l (Call.next t b o)
none_free l (Call.reading q) = refusals l (Call.reading q)

abbrev pub scanless : Ways
scanless = ways none_free changes_to begun itself walk_ended

abbrev pub no_scans : Machine
no_scans = called_by scanless
