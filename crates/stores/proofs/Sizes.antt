-- A store whose numbers and lists are of the sizes that bytes can spell.
use mathlib.Core.Path.{◌≡◌}
use mathlib.Core.List.{List, [], ◌∷◌}
use Prim.Native.Nat.{ℕ, zero, suc, ◌^◌, ◌<◌}
use native.Mathlib.Omega.{arith}
use lib.ListN.{length, get_or, set, replicate, length-replicate}
use Rattle.rules.specs.Passed.{All, Byte}
use Rattle.rules.specs.declared.Card.{Card}
use Rattle.rules.specs.Memory.{Slot, free, idle, Desk, Store}

pub record CardSized (c : Card) : Type 0 where
  pub ticket : c.ticket.0 < 4294967296
  pub place : c.place < 4294967296
  pub handed : c.handed < 4294967296
  pub rest : c.rest < 4294967296

pub record SlotSized (s : Slot) : Type 0 where
  pub number : s.number < 4294967296
  pub body : length s.body ≡ 52
  pub mask : s.mask < 2 ^ 64
  pub bytes : All Byte s.body

pub record DeskSized (d : Desk) : Type 0 where
  pub n : d.n < 4294967296
  pub t : d.t < 4294967296
  pub r : d.r < 4294967296
  pub last : d.last < 4294967296
  pub stable : d.masks.stable < 2 ^ 64
  pub active : d.masks.active < 2 ^ 64
  pub local : d.masks.local < 2 ^ 64
  pub zeros : length d.zeros ≡ 24
  pub bytes : All Byte d.zeros
  pub all : length d.cards ≡ 64
  pub cards : (i : ℕ) → CardSized (get_or d.cards i idle)

pub record Sized (S : Store) : Type 0 where
  pub desk : DeskSized S.desk
  pub table : (i : ℕ) → SlotSized (get_or S.table i free)
  pub shelf : (i : ℕ) → SlotSized (get_or S.shelf i free)

pub zero-bytes : (n : ℕ) → All Byte (replicate n 0)
zero-bytes zero = tt
zero-bytes (suc n) = (omega arith, zero-bytes n)

pub idle_sized : CardSized idle
idle_sized = record { ticket = omega arith; place = omega arith; handed = omega arith; rest = omega arith }

pub free_sized : SlotSized free
free_sized = record { number = omega arith; body = length-replicate {A = ℕ} 52 0; mask = omega arith; bytes = zero-bytes 52 }

-- what holds of every element holds after one is set to another of which it holds
pub set_all : {A : Type 0} (P : A → Type 0) (d : A) (l : List A) (i : ℕ) (a : A) → ((j : ℕ) → P (get_or l j d)) → P a → (j : ℕ) → P (get_or (set l i a) j d)
set_all P d [] i a h p j = h j
set_all P d (x ∷ l) zero a h p zero = p
set_all P d (x ∷ l) zero a h p (suc j) = h (suc j)
set_all P d (x ∷ l) (suc i) a h p zero = h zero
set_all P d (x ∷ l) (suc i) a h p (suc j) = set_all P d l i a (λ j. h (suc j)) p j

pub replicate-all : {A : Type 0} (P : A → Type 0) (d : A) (n : ℕ) (a : A) → P d → P a → (j : ℕ) → P (get_or (replicate n a) j d)
replicate-all P d zero a p q j = p
replicate-all P d (suc n) a p q zero = q
replicate-all P d (suc n) a p q (suc j) = replicate-all P d n a p q j
