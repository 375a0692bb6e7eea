-- "Sessions worked through": every figure of P1 to P12 and of the own session around them, as the rules give it and as
-- document 01 has it: on a store here, on lent bytes in crate `worked`.
use Rattle.std.specs.Prelude.{Bool, true, false, List, [], ◌∷◌, ◌++◌, ℕ, ◌+◌, ◌*◌, replicate}
use Rattle.rules.specs.Answers.{packed}
use Rattle.rules.specs.Bytes.{to_le}
use Rattle.rules.specs.Calls.{slot_in, card_of}
use Rattle.rules.specs.Masks.{NOT, all_ones, on, REMSET_MASK_INS, REMSET_MASK_UPD, STATUS_MASK_UPD, STABLE_FLIP}
use Rattle.rules.specs.Memory.{Lent, lent, Slot, slot, free, Store, read, version}
use Rattle.rules.specs.Next.{Told}
use Rattle.rules.specs.Refusals.{Call, Change, step}

pub data Figure : Type 0 where
  mask : ℕ → Figure
  freed : Bool → Figure
  holds : Slot → Figure
  returns : ℕ → Figure
  hands : List ℕ → Figure
  ticket : ℕ → Figure
  entries : List Slot → Figure
  stable_is_one : Bool → Figure

-- what the rules give beside what document 01 has
abbrev pub Beside : Type 0
Beside = Figure × Figure

-- ---- P1 to P6, at three and five bits, written leftmost bit highest

unfoldable pub paper : List Beside
paper =
    -- P1 stable 000, local active 100, status 010: m = 110, new status 011
    (mask (REMSET_MASK_INS 0b000 0b010 0b100), mask 0b110)
    ∷ (mask (STATUS_MASK_UPD 3 0b000 0b100), mask 0b011)
    -- P2 same, status 000: m = 100
    ∷ (mask (REMSET_MASK_INS 0b000 0b000 0b100), mask 0b100)
    -- P3 mask 100, scan 010 reads: 110, kept
    ∷ (mask (REMSET_MASK_UPD 0b010 0b100), mask 0b110)
    ∷ (freed (all_ones 3 (REMSET_MASK_UPD 0b010 0b100)), freed false)
    -- P4 mask 110, scan 001 reads: 111, freed
    ∷ (mask (REMSET_MASK_UPD 0b001 0b110), mask 0b111)
    ∷ (freed (all_ones 3 (REMSET_MASK_UPD 0b001 0b110)), freed true)
    -- P5 stable 11000, scan mask 00100 ends its table walk: 11100
    ∷ (mask (STABLE_FLIP 0b11000 0b00100), mask 0b11100)
    -- P6 then 10000: 01100
    ∷ (mask (STABLE_FLIP 0b11100 0b10000), mask 0b01100)
    ∷ []

-- ---- what is seen after a call

abbrev pub Sight : Type 0
Sight = (Told → Figure) × Figure

unfoldable pub comes_back : ℕ → Sight
comes_back n = ((λ r. returns (packed r.answer)), returns n)

unfoldable pub handed : ℕ → List ℕ → Sight
handed k b = ((λ r. hands r.out), hands (version (slot k b 0)))

unfoldable pub in_slot : ℕ → Slot → Sight
in_slot i s = ((λ r. holds (slot_in r.after.table i)), holds s)

unfoldable pub in_entry : ℕ → Slot → Sight
in_entry e s = ((λ r. holds (slot_in r.after.shelf e)), holds s)

unfoldable pub at_position : ℕ → ℕ → Sight
at_position p given = ((λ r. ticket (card_of r.after p).ticket.0), ticket given)

unfoldable pub empty_shelf : Sight
empty_shelf = ((λ r. entries r.after.shelf), entries (replicate 8 free))

unfoldable pub one_means_stable : ℕ → Sight
one_means_stable p = ((λ r. stable_is_one (on r.after.desk.masks.stable p)), stable_is_one true)

-- ---- "Own session, N = 2, T = 4, R = 8."

abbrev pub Turn : Type 0
Turn = Call × List Sight

-- a body: start day, kind, 47 bytes of the host's
unfoldable pub body : ℕ → ℕ → ℕ → List ℕ
body day kind host = to_le 4 day ++ (kind ∷ replicate 47 host)

unfoldable pub A : List ℕ
A = body 20260101 1 65

unfoldable pub B : List ℕ
B = body 20260201 2 66

unfoldable pub B' : List ℕ
B' = body 20260202 2 66

unfoldable pub B'' : List ℕ
B'' = body 20260203 1 66

unfoldable pub C : List ℕ
C = body 20260301 1 67

unfoldable pub D : List ℕ
D = body 20260401 2 68

-- all ones but some bits
abbrev pub all_but : ℕ → ℕ
all_but x = NOT 64 x

abbrev pub next : ℕ → ℕ → Call
next given budget = Call.next given budget (replicate 56 0)

unfoldable pub session : List Turn
session =
    (Call.opening 2, comes_back 0 ∷ empty_shelf ∷ [])
    -- Insert 11, 12, 13 (bodies A, B, C): slots 0, 1, 2, status 0
    ∷ (Call.change (Change.insert 11 A), comes_back 0 ∷ in_slot 0 (slot 11 A 0) ∷ [])
    ∷ (Call.change (Change.insert 12 B), comes_back 0 ∷ in_slot 1 (slot 12 B 0) ∷ [])
    ∷ (Call.change (Change.insert 13 C), comes_back 0 ∷ in_slot 2 (slot 13 C 0) ∷ [])
    -- P7 begin: ticket 1, position 0
    ∷ (Call.begin, comes_back (0 + 256 * 1) ∷ at_position 0 1 ∷ [])
    -- Next, budget 1: 11 A, 1 look
    ∷ (next 1 1, comes_back (0 + 256 * 1) ∷ handed 11 A ∷ [])
    -- P8 modify 12 to B': entry 0 holds B, mask all ones but bit 0; status 1
    ∷ (Call.change (Change.modify 12 B'), comes_back 0 ∷ in_entry 0 (slot 12 B (all_but 0b01)) ∷ in_slot 1 (slot 12 B' 1) ∷ [])
    -- Begin: ticket 2, position 1
    ∷ (Call.begin, comes_back (0 + 256 * 2) ∷ at_position 1 2 ∷ [])
    -- P9 modify 12 to B'': entry 1 holds B', all ones but bit 1; status 3
    ∷ (Call.change (Change.modify 12 B''), comes_back 0 ∷ in_entry 1 (slot 12 B' (all_but 0b10)) ∷ in_slot 1 (slot 12 B'' 3) ∷ [])
    -- P10 delete 13: entry 2 holds C, bits 0 and 1 clear
    ∷ (Call.change (Change.delete 13), comes_back 0 ∷ in_entry 2 (slot 13 C (all_but 0b11)) ∷ in_slot 2 free ∷ [])
    -- Insert 14: slot 2, status 3
    ∷ (Call.change (Change.insert 14 D), comes_back 0 ∷ in_slot 2 (slot 14 D 3) ∷ [])
    -- Ticket 1, budget 100: 12 B with 4 looks, entry 0 freed; 13 C with 2 looks
    ∷ (next 1 100, comes_back (0 + 256 * 4) ∷ handed 12 B ∷ in_entry 0 free ∷ [])
    ∷ (next 1 100, comes_back (0 + 256 * 2) ∷ handed 13 C ∷ [])
    -- P11 then finished with 5 looks, 3 handed, C return value 1,610,614,117
    ∷ (next 1 100, comes_back (101 + 256 * (5 + 2097152 * 3)) ∷ comes_back 1610614117 ∷ at_position 0 0 ∷ [])
    -- Ticket 2 hands 11 A, 12 B', 13 C; P12 the shelf is then empty
    ∷ (next 2 100, handed 11 A ∷ [])
    ∷ (next 2 100, handed 12 B' ∷ [])
    ∷ (next 2 100, handed 13 C ∷ empty_shelf ∷ [])
    -- A third scan takes position 0, where 1 now means stable, and hands 11 A, 12 B'', 14
    ∷ (Call.begin, comes_back (0 + 256 * 3) ∷ at_position 0 3 ∷ one_means_stable 0 ∷ [])
    ∷ (next 3 100, handed 11 A ∷ [])
    ∷ (next 3 100, handed 12 B'' ∷ [])
    ∷ (next 3 100, handed 14 D ∷ [])
    ∷ []

-- ---- the session run on a store, and the one list

unfoldable pub seen : Told → List Sight → List Beside
seen r [] = []
seen r (s ∷ ss) = (s.0 r, s.1) ∷ seen r ss

unfoldable pub run : Store → List Turn → List Beside
run S [] = []
run S (turn ∷ turns) = seen (step S turn.0) turn.1 ++ run (step S turn.0).after turns

-- bytes of whatever stood there before the opening
unfoldable pub before : Lent
before = lent (replicate 1088 255) (replicate 256 170) (replicate 512 85)

unfoldable pub worked : List Beside
worked = paper ++ run (read before) session

unfoldable pub ruled : List Beside → List Figure
ruled [] = []
ruled (b ∷ bs) = b.0 ∷ ruled bs

unfoldable pub documented : List Beside → List Figure
documented [] = []
documented (b ∷ bs) = b.1 ∷ documented bs
