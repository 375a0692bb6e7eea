-- A store between two calls: N, T and R, what it holds, what the calls and answers have told of it, and who stands where.
use mathlib.Core.Path.{◌≡◌, ap}
use mathlib.Core.Bool.{Bool, true}
use mathlib.Core.Option.{Option, none, some}
use mathlib.Core.List.{List, map}
use Prim.Native.Nat.{ℕ, ◌+◌}
use lib.Bits.{bit_xor}
use lib.ListN.{get_or}
use Rattle.demands.specs.History.{Version, Scan, History, awaits, awaited}
use Rattle.demands.specs.Lists.{keep}
use Rattle.demands.specs.Masks.{waits_for}
use Rattle.rules.specs.Masks.{off}
use Rattle.rules.specs.Memory.{Slot, Store}
use Rattle.demands.proofs.lists.Places.{At}

pub record Moment : Type 0 where
  pub n : ℕ
  pub t : ℕ
  pub r : ℕ
  pub store : Store
  pub history : History
  -- the version in each slot and in each entry, the scan at each position
  pub table : List (Option Version)
  pub shelf : List (Option Version)
  pub seats : List (Option Scan)

abbrev pub moment : ℕ → ℕ → ℕ → Store → History → List (Option Version) → List (Option Version) → List (Option Scan) → Moment
moment n t r S h gt gs sc = record { n = n; t = t; r = r; store = S; history = h; table = gt; shelf = gs; seats = sc }

-- the same N, T and R
abbrev pub later : Moment → Store → History → List (Option Version) → List (Option Version) → List (Option Scan) → Moment
later m S h gt gs sc = moment m.n m.t m.r S h gt gs sc

-- where every version stands as it stood
abbrev pub scans_move : Moment → Store → History → List (Option Scan) → Moment
scans_move m S h sc = later m S h m.table m.shelf sc

-- where every scan does
abbrev pub versions_move : Moment → Store → History → List (Option Version) → List (Option Version) → Moment
versions_move m S h gt gs = later m S h gt gs m.seats

-- after a call of next: what nobody awaits any more has left the shelf
abbrev pub after_next : Moment → Store → History → List (Option Scan) → Moment
after_next m S h sc = later m S h m.table (map (keep (awaited h)) m.shelf) sc

-- how far a scan has looked: to the end, where there is none
abbrev pub looks_o : ℕ → Option Scan → ℕ
looks_o end none = end
looks_o end (some s) = s.looks

module _ (m : Moment) where
  abbrev pub end : ℕ
  end = m.t + m.r

  -- the scan at position i awaits v
  abbrev pub aw : ℕ → Version → Bool
  aw i v = waits_for (get_or m.seats i none) v

  abbrev pub place_in : ℕ → ℕ
  place_in i = looks_o end (get_or m.seats i none)

  pub aw_at : (i : ℕ) (s : Scan) → At m.seats i s → (v : Version) → aw i v ≡ awaits s v
  aw_at i s e v = ap (λ (o : Option Scan). waits_for o v) e

  pub place_at : (i : ℕ) (s : Scan) → At m.seats i s → place_in i ≡ s.looks
  place_at i s e = ap (looks_o end) e

-- slots in a row: which version stands in each, the place of each among all, what a look reads of a mask and at which positions
pub record Row : Type 0 where
  pub slots : List Slot
  pub versions : List (Option Version)
  pub place : ℕ → ℕ
  pub shows : ℕ → ℕ
  pub speaks : ℕ → Bool

-- the status, against stable; of scans in their table walk
abbrev pub table_of : Moment → Row
table_of m =
    record {
      slots = m.store.table;
      versions = m.table;
      place = λ j. j;
      shows = λ x. bit_xor m.store.desk.masks.stable x;
      speaks = λ i. off m.store.desk.masks.local i;
    }

-- the mask itself; of all scans
abbrev pub shelf_of : Moment → Row
shelf_of m = record { slots = m.store.shelf; versions = m.shelf; place = λ k. m.t + k; shows = λ x. x; speaks = λ i. true }
