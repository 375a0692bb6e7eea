-- A refusal that is handed on is told by its number.
use mathlib.Core.Path.{◌≡◌, ap}
use Rattle.std.specs.Prelude.{Result, Ok, Err, IsErrAnd}
use Rattle.rules.specs.declared.Refusal.{Refusal}
use Rattle.rules.specs.Answers.{Answer, refused, number_of, says}

pub refused-on : {A : Type 0} (tells : A → Answer) (a : Result A Refusal) (r : Refusal) → IsErrAnd a (λ x. x ≡ r) → says tells a ≡ refused (number_of r)
unfolding says
refused-on tells (Ok x) r e = absurd e
refused-on tells (Err x) r e = ap (λ (y : Refusal). refused (number_of y)) e
