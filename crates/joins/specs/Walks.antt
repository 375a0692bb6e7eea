-- Next as one search: the first place that hands out a version within the budget, and the store then.
use Rattle.std.specs.Prelude.{Bool, true, false, ◌&&◌, List, ℕ, suc, ◌+◌, ◌-◌, min, ltb, leb, set}
use Rattle.rules.specs.Calls.{first, slot_in, card_of}
use Rattle.rules.specs.Memory.{Slot, card, Store, store, T, R}
use Rattle.rules.specs.Next.{desk_with, turned, in_table, flipped, on_shelf, taken}

-- does the look at place q hand out a version
unfoldable pub hit_by : Bool → Store → ℕ → ℕ → Bool
hit_by true S p q = in_table S p q
hit_by false S p q = on_shelf S p (q - T S)

abbrev pub hit : Store → ℕ → ℕ → Bool
hit S p q = hit_by (ltb q (T S)) S p q

-- the place that the budget reaches
abbrev pub reach : Store → ℕ → ℕ → ℕ
reach S p b = min ((card_of S p).place + b) (T S + R S)

-- the first place that hands out a version, or the place that the budget reaches
abbrev pub stop_at : Store → ℕ → ℕ → ℕ
stop_at S p b = first (hit S p) (card_of S p).place (reach S p b - (card_of S p).place)

-- has the table walk ended on the way
abbrev pub crossed : ℕ → ℕ → ℕ → Bool
crossed from t to = ltb from t && leb t to

-- the scan at p has moved to place q with h handed, over this table and shelf
unfoldable pub moved_to : Store → ℕ → ℕ → ℕ → List Slot → List Slot → Store
moved_to S p q h tb sh =
    store (desk_with S.desk (turned (crossed (card_of S p).place (T S) q) S.desk.masks p) p (card (card_of S p).ticket.0 q h (card_of S p).rest)) tb sh

-- the version at place q is handed out
unfoldable pub took_by : Bool → Store → ℕ → ℕ → Store
took_by true S p q = moved_to S p (suc q) (suc (card_of S p).handed) (set S.table q (flipped (slot_in S.table q) p)) S.shelf
took_by false S p q = moved_to S p (suc q) (suc (card_of S p).handed) S.table (set S.shelf (q - T S) (taken (slot_in S.shelf (q - T S)) p))

abbrev pub took : Store → ℕ → ℕ → Store
took S p q = took_by (ltb q (T S)) S p q

-- what stands at place q
unfoldable pub here_by : Bool → Store → ℕ → Slot
here_by true S q = slot_in S.table q
here_by false S q = slot_in S.shelf (q - T S)

abbrev pub here : Store → ℕ → Slot
here S q = here_by (ltb q (T S)) S q
