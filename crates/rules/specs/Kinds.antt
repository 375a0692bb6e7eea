-- The kinds that a record may bear: "1 bound policy, 2 written quote, 3 spoken quote".
use Rattle.std.specs.Prelude.{◌≡◌, Bool, true, false, ◌&&◌, ℕ, leb, Result, MatchResult}
use Rattle.rules.specs.declared.Kind.{Kind}
use Rattle.rules.specs.declared.Refusal.{Refusal}

-- the byte that tells it
abbrev pub byte_of : Kind → ℕ
byte_of Kind.Bound = 1
byte_of Kind.Written = 2
byte_of Kind.Spoken = 3

abbrev pub is_kind : ℕ → Bool
is_kind byte = leb 1 byte && leb byte 3

-- a byte of 1 to 3 is the kind that it tells, and any other is refused
abbrev pub KindOf : ℕ → Result Kind Refusal → Type 0
KindOf byte r = MatchResult r (λ kind. (byte_of kind ≡ byte) × (is_kind byte ≡ true)) (λ e. (e ≡ Refusal.BadKind) × (is_kind byte ≡ false))
