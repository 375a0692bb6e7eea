-- With document 01's own ways the machine is document 01's store: a store in other ways differs from it in those alone.
use mathlib.Core.Path.{◌≡◌, refl, ap}
use mathlib.Core.Bool.{Bool, true, false}
use mathlib.Core.Option.{Option, none, some}
use mathlib.Core.List.{List, []}
use Prim.Native.Nat.{ℕ, zero, suc, ◌+◌, ◌-◌}
use lib.Dec.{ltb}
use Rattle.rules.specs.Answers.{Answer, Draw, Shown}
use Rattle.rules.specs.Calls.{card_of, position_of}
use Rattle.rules.specs.Masks.{walk_ended}
use Rattle.rules.specs.Memory.{Lent, Store, T, R, read, version}
use Rattle.rules.specs.Next.{Told, told, in_table, on_shelf, at_end, table_look, shelf_look, look_at, look, finish, walk}
use Rattle.rules.specs.Refusals.{Call, Change, Reading, Refusals, first_of, refusals, changes_to, effect, written_all, replied, called}
use Rattle.wrong.specs.Walk.{table_look as table_look_by, shelf_look as shelf_look_by, look_at as look_at_by, look as look_by, finish as finish_by, walk as walk_in}
use Rattle.wrong.specs.Ways.{Ways, ways, begun, itself, ours, effect_by, replied_by, called_by}

-- ---- the walk

looks-same : (S : Store) (p : ℕ) → look_by itself walk_ended S p ≡ look S p
unfolding look_at_by table_look_by shelf_look_by look_at table_look shelf_look
looks-same S p = go (ltb (card_of S p).place (T S)) (card_of S p).place
  where
    table : (b : Bool) (i : ℕ) → table_look_by itself walk_ended b S p i ≡ table_look b S p i
    table true i = refl
    table false i = refl

    shelf : (b : Bool) (k : ℕ) → shelf_look_by itself walk_ended b S p k ≡ shelf_look b S p k
    shelf true k = refl
    shelf false k = refl

    go : (b : Bool) (q : ℕ) → look_at_by itself walk_ended b S p q ≡ look_at b S p q
    go true q = table (in_table S p q) q
    go false q = shelf (on_shelf S p (q - T S)) (q - T S)

pub ours_is_the_walk : (b : ℕ) (S : Store) (p l : ℕ) (o : List ℕ) → walk_in itself walk_ended S p b l o ≡ walk S p b l o
unfolding walk_in walk finish_by finish
ours_is_the_walk zero S p l o = refl
ours_is_the_walk (suc b) S p l o = λ i.
    elim (at_end S p) [
      | true ↦ told (Answer.drew (Draw.finished l (suc b) (card_of S p).handed)) (finish S p) o
      | false ↦ elim (looks-same S p i).1 [ none ↦ ours_is_the_walk b (looks-same S p i).0 p (suc l) o i | some v ↦ told (Answer.drew (Draw.in_hand (suc l) b)) (looks-same S p i).0 (version v) ]
    ]

-- ---- the calls

module _ (r : Lent → Call → Refusals) (ch : Store → Change → Store) where
  -- in other ways of refusing and changing, any call that changes nothing otherwise
  pub same_effect : (S : Store) (c : Call) → ((d : Change) → c ≡ Call.change d → ch S d ≡ changes_to S d) → effect_by (ways r ch begun itself walk_ended) S c ≡ effect S c
  unfolding effect_by effect
  same_effect S (Call.opening n) q = refl
  same_effect S (Call.change d) q = ap (λ (X : Store). told Answer.done X []) (q d refl)
  same_effect S Call.begin q = refl
  same_effect S (Call.next t b o) q = ours_is_the_walk b S (position_of S t) 0 o
  same_effect S (Call.reading (Reading.peek t)) q = ap (λ (x : Told). told (Answer.shown (Shown.part x.out)) S []) (ours_is_the_walk (T S + R S) S (position_of S t) 0 [])
  same_effect S (Call.reading Reading.tally) q = refl
  same_effect S (Call.reading (Reading.owed t)) q = refl

pub same-reply : (w : Ways) (l : Lent) (c : Call) → effect_by w (read l) c ≡ effect (read l) c → (x : Option ℕ) → replied_by w x l c ≡ replied x l c
unfolding replied_by replied
same-reply w l c e none = ap written_all e
same-reply w l c e (some k) = refl

pub ours_is_called : (l : Lent) (c : Call) → called_by ours l c ≡ called l c
unfolding called_by called
ours_is_called l c = same-reply ours l c (same_effect refusals changes_to (read l) c (λ d e. refl)) (first_of (refusals l c))
