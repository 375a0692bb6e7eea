-- The sessions worked through, run on lent bytes: every call reads all of the store from them and writes it again.
use Rattle.std.specs.Prelude.{List, [], ◌∷◌, ◌++◌}
use Rattle.rules.specs.Memory.{Lent, read}
use Rattle.rules.specs.Next.{Told, told}
use Rattle.rules.specs.Refusals.{Reply, called}
use Rattle.rules.specs.Worked.{Beside, Turn, paper, session, seen, before}

-- what a reply spells
unfoldable pub spelt : Reply → Told
spelt r = told r.answer (read r.after) r.out

unfoldable pub run : Lent → List Turn → List Beside
run l [] = []
run l (turn ∷ turns) = seen (spelt (called l turn.0)) turn.1 ++ run (called l turn.0).after turns

unfoldable pub worked : List Beside
worked = paper ++ run before session
