-- The ways out of peek, each from what its steps ensure to the rule.
use mathlib.Core.Logic.{◌⊎◌, inl, inr}
use mathlib.Core.Path.{◌≡◌, refl, sym, ap, ◌∙◌}
use mathlib.Core.Bool.{Bool, true, false}
use mathlib.Core.List.{List, []}
use Prim.Native.Nat.{ℕ, suc, ◌+◌, ◌*◌, ◌-◌, ◌/◌, ◌≤◌, ◌<◌}
use native.Mathlib.Omega.{arith}
use lib.Dec.{ltb}
use lib.ListN.{length}
use lib.Seq.{get_or-set_same}
use denote.Ref.{Bor}
use borrow.Author.Tests.{ltb-true, ltb-false, lt-ltb, le-ltb}
use Rattle.std.specs.Prelude.{Some, None}
use Rattle.rules.specs.declared.Card.{Card}
use Rattle.rules.specs.declared.SlotNumber.{SlotNumber}
use Rattle.rules.specs.Answers.{Answer, Shown}
use Rattle.rules.specs.Bytes.{field}
use Rattle.rules.specs.Calls.{slot_in, card_of, position_of}
use Rattle.rules.specs.Masks.{Masks}
use Rattle.rules.specs.Promises.{StartsAt, LiesAt}
use Rattle.rules.specs.Memory.{Store, T, R, card, idle, masks_of, slots_of, card_at, store_of, version}
use Rattle.rules.specs.Next.{Told, told, walk, peeked_at}
use Rattle.rules.specs.Refusals.{Call, Reading, no_scan, step}
use Rattle.rules.specs.Sound.{sound}
use Rattle.rules.proofs.Bytes.{Bytes}
use Rattle.joins.specs.Walks.{stop_at, moved_to, took_by, here_by, here}
use Rattle.joins.proofs.Cases.{peek-none, peek-goes}
use Rattle.joins.proofs.Slots.{slots-there}
use Rattle.joins.proofs.Walks.{walk-hit, walk-finished}
use Rattle.looks.specs.declared.walk.Seen.{Seen}
use Rattle.looks.specs.declared.walk.Walked.{Walked}
use Rattle.looks.specs.Walked.{stop_of, hit_in, sought_of}
use Rattle.settle.proofs.HandOut.{version_at}
use Rattle.settle.proofs.Moves.{table-there, shelf-there}
use Rattle.readings.specs.declared.peek.Found.{Found}
use Rattle.readings.specs.Found.{found_by, found_at}
use Rattle.running.specs.Scan.{Runs, scan_of}
use Rattle.running.proofs.Scan.{scan_none, scan_one, scan_at, scan_runs, scan_fits}
use Rattle.running.proofs.Sought.{record_says, record_at_lem, spent_says, end_says, ends_at, on_desk_lem, within, stop_is}

-- the first place that next with unbounded budget would hand out to the scan at p, or the end
abbrev stop_for : Store → ℕ → ℕ
stop_for S p = stop_at S p (T S + R S)

-- ---- what is found, by the walk

module _ (d t s : List ℕ) {p : ℕ} (below : p < 64) {c : Card} (ec : c ≡ card_at d p) {m : Masks} (em : m ≡ masks_of d) {slots entries : ℕ} (et : slots ≡ length t / 64) (es : entries ≡ length s / 64)
    {w : Walked} (ew : w ≡ sought_of m.stable p t s c.place (slots + entries)) where
  abbrev hits : ℕ → Bool
  hits = hit_in m.stable p (slots_of t) (slots_of s)

  abbrev end : ℕ
  end = length t / 64 + length s / 64

  abbrev stop : ℕ
  stop = stop_of hits c.place end end

  whole : w ≡ sought_of m.stable p t s c.place end
  whole = rw (et, es) at ew

  found_by_lem : found_by (ltb stop end) (ltb stop (length t / 64)) stop (length t / 64) ≡ found_at (store_of d t s) p
  found_by_lem =
      let stops : stop_for (store_of d t s) p ≡ stop = ap (λ (b : ℕ). stop_at (store_of d t s) p b) (ends_at d t s) ∙ stop_is d t s below ec (ap (λ (v : Masks). v.stable) em) end in
      sym (rw (stops, ends_at d t s, slots-there d t s) refl)

  module _ (seen : w.seen ≡ Seen.Record) where
    there : stop < end
    there = omega (arith, (record_says hits c.place end end whole seen).0)

    here_is : c.place + w.looks - 1 ≡ stop
    here_is = record_at_lem hits c.place end end whole seen

    pub found_table : c.place + w.looks - 1 < slots → {k : ℕ} → k ≡ c.place + w.looks - 1 → Some (Found.InTable (record { 0 = k })) ≡ found_at (store_of d t s) p
    unfolding found_by
    found_table h x = rw (x, here_is) (rw (lt-ltb _ _ there, lt-ltb stop (length t / 64) (omega (arith, here_is))) at found_by_lem)

    pub found_shelf : slots ≤ c.place + w.looks - 1 → {k : ℕ} → k ≡ c.place + w.looks - 1 - slots → Some (Found.OnShelf (record { 0 = k })) ≡ found_at (store_of d t s) p
    unfolding found_by
    found_shelf h x = rw (x, here_is, et) (rw (lt-ltb _ _ there, le-ltb stop (length t / 64) (omega (arith, here_is))) at found_by_lem)

  pub found_nothing : (w.seen ≡ Seen.Spent) ⊎ (w.seen ≡ Seen.End) → None ≡ found_at (store_of d t s) p
  unfolding found_by
  found_nothing (inl e) = absurd (omega (arith, (spent_says hits c.place end end whole e).1))
  found_nothing (inr e) =
      let none : end ≤ stop = omega (arith, (end_says hits c.place end end whole e).0) in
      rw (le-ltb _ _ none) at found_by_lem

-- ---- what was found says where the walk stops

module _ (q t : ℕ) where
  by_table : (x y : Bool) {i : SlotNumber} → Some (Found.InTable i) ≡ found_by x y q t → (x ≡ true) × (y ≡ true) × (q ≡ i.0)
  unfolding found_by
  by_table false y e = let z : ◌≡◌ {A = ℕ} 0 1 = cc in absurd (omega arith)
  by_table true true e = (refl, refl, cc)
  by_table true false e = let z : ◌≡◌ {A = ℕ} 0 1 = cc in absurd (omega arith)

  by_shelf : (x y : Bool) {j : SlotNumber} → Some (Found.OnShelf j) ≡ found_by x y q t → (x ≡ true) × (y ≡ false) × (q - t ≡ j.0)
  unfolding found_by
  by_shelf false y e = let z : ◌≡◌ {A = ℕ} 0 1 = cc in absurd (omega arith)
  by_shelf true true e = let z : ◌≡◌ {A = ℕ} 0 1 = cc in absurd (omega arith)
  by_shelf true false e = (refl, refl, cc)

  by_nothing : (x y : Bool) → None ≡ found_by x y q t → x ≡ false
  unfolding found_by
  by_nothing false y e = refl
  by_nothing true true e = let z : ◌≡◌ {A = ℕ} 0 1 = cc in absurd (omega arith)
  by_nothing true false e = let z : ◌≡◌ {A = ℕ} 0 1 = cc in absurd (omega arith)

module _ (S : Store) (p : ℕ) where
  table_says : {i : SlotNumber} → Some (Found.InTable i) ≡ found_at S p → (stop_for S p ≡ i.0) × (i.0 < T S)
  table_says e =
      let x = by_table (stop_for S p) (T S) _ _ e in
      (x.2, omega (arith, x.2, ltb-true (stop_for S p) (T S) x.1))

  shelf_says : {j : SlotNumber} → Some (Found.OnShelf j) ≡ found_at S p → (stop_for S p ≡ T S + j.0) × (j.0 < R S)
  shelf_says e =
      let x = by_shelf (stop_for S p) (T S) _ _ e in
      let up : T S ≤ stop_for S p = ltb-false (stop_for S p) (T S) x.1 in
      (omega (arith, x.2), omega (arith, x.2, ltb-true (stop_for S p) (T S + R S) x.0))

-- ---- the part, and where it lies

-- the card after the look that hands out the version at place q
took_place : (S : Store) (p q : ℕ) → p < length S.desk.cards → (x : Bool) → (card_of (took_by x S p q) p).place ≡ suc q
unfolding took_by moved_to
took_place S p q h true = ap (λ (v : Card). v.place) (get_or-set_same S.desk.cards p (card (card_of S p).ticket.0 (suc q) (suc (card_of S p).handed) (card_of S p).rest) idle h)
took_place S p q h false = ap (λ (v : Card). v.place) (get_or-set_same S.desk.cards p (card (card_of S p).ticket.0 (suc q) (suc (card_of S p).handed) (card_of S p).rest) idle h)

module _ (S : Store) (k : ℕ) {p : ℕ} (one : no_scan S k ≡ false) (at : position_of S k ≡ p) (on_desk : p < length S.desk.cards) (fits : (card_of S p).place ≤ T S + R S) where
  goes : told (Answer.shown (Shown.part (walk S p (T S + R S) 0 []).out)) S [] ≡ step S (Call.reading (Reading.peek k))
  goes = rw (← at) (peek-goes S k one)

  module _ {q : ℕ} (stops : stop_for S p ≡ q) (there : q < T S + R S) where
    shows_here : told (Answer.shown (Shown.part (version (here S q)))) S [] ≡ step S (Call.reading (Reading.peek k))
    shows_here = rw (← stops) (ap (λ (r : Told). told (Answer.shown (Shown.part r.out)) S []) (sym (walk-hit S p on_desk (T S + R S) [] fits (omega arith))) ∙ goes)

    stands_at : peeked_at S k ≡ q
    stands_at =
        let after : (card_of (walk S p (T S + R S) 0 []).after p).place ≡ suc (stop_for S p) =
        ap (λ (r : Told). (card_of r.after p).place) (walk-hit S p on_desk (T S + R S) [] fits (omega arith)) ∙ took_place S p (stop_for S p) on_desk (ltb (stop_for S p) (T S)) in
        rw at (omega (arith, after))

  shows_nothing : T S + R S ≤ stop_for S p → told (Answer.shown (Shown.part [])) S [] ≡ step S (Call.reading (Reading.peek k))
  shows_nothing h = ap (λ (r : Told). told (Answer.shown (Shown.part r.out)) S []) (sym (walk-finished S p on_desk (T S + R S) [] fits (omega arith) (omega arith))) ∙ goes

-- ---- the ways out

module _ (d t s : List ℕ) (p : ℕ) where
  pub below_table : {i : SlotNumber} → Some (Found.InTable i) ≡ found_at (store_of d t s) p → i.0 < length t / 64
  below_table e = rw (slots-there d t s) at (table_says (store_of d t s) p e).1

  pub below_shelf : {j : SlotNumber} → Some (Found.OnShelf j) ≡ found_at (store_of d t s) p → j.0 < length s / 64
  below_shelf e = omega (arith, (shelf_says (store_of d t s) p e).1, ends_at d t s, slots-there d t s)

module _ (d t s : List ℕ) (k : ℕ) where
  pub peeks_none : scan_of (store_of d [] []) k ≡ 64 → told (Answer.shown (Shown.part [])) (store_of d t s) [] ≡ step (store_of d t s) (Call.reading (Reading.peek k))
  peeks_none h = peek-none (store_of d t s) k (scan_none d t s k h)

  module _ (ok : sound (store_of d t s) ≡ true) {p : ℕ} (ep : p ≡ scan_of (store_of d [] []) k) (low : scan_of (store_of d [] []) k < 64) where
    abbrev S : Store
    S = store_of d t s

    one : no_scan S k ≡ false
    one = scan_one d t s k ep low

    at : position_of S k ≡ p
    at = scan_at d t s k ep low

    runs : Runs d p
    runs = scan_runs d t s k ep low

    on_desk : p < length S.desk.cards
    on_desk = on_desk_lem d t s runs.0

    fits : (card_of S p).place ≤ T S + R S
    fits = within d t s runs.0 refl (scan_fits d t s ok runs refl)

    pub peeks_table : {i : SlotNumber} {l : List ℕ} → l ≡ field 56 (i.0 * 64) t → Some (Found.InTable i) ≡ found_at S p → Bytes t → told (Answer.shown (Shown.part l)) S [] ≡ step S (Call.reading (Reading.peek k))
    unfolding here_by
    peeks_table {i} el e bytes =
        let f = table_says S p e in
        let here_table : here S i.0 ≡ slot_in (slots_of t) i.0 = rw (lt-ltb i.0 (T S) f.1, table-there d t s) refl in
        ap (λ (l : List ℕ). told (Answer.shown (Shown.part l)) S []) (el ∙ version_at t i.0 (below_table d t s p e) bytes ∙ sym (ap version here_table))
        ∙ shows_here S k one at on_desk fits f.0 (omega (arith, f.1))

    pub lies_table : {i : SlotNumber} {part tb sh : Bor (List ℕ)} → StartsAt part tb i.0 → Some (Found.InTable i) ≡ found_at S p → LiesAt part tb sh (T S) (peeked_at S k)
    lies_table {i} a e =
        let f = table_says S p e in
        let q : peeked_at S k ≡ i.0 = stands_at S k one at on_desk fits f.0 (omega (arith, f.1)) in
        record { in_table = λ z. rw q a; on_shelf = λ z. absurd (omega (arith, f.1)) }

    pub peeks_shelf : {j : SlotNumber} {l : List ℕ} → l ≡ field 56 (j.0 * 64) s → Some (Found.OnShelf j) ≡ found_at S p → Bytes s → told (Answer.shown (Shown.part l)) S [] ≡ step S (Call.reading (Reading.peek k))
    unfolding here_by
    peeks_shelf {j} el e bytes =
        let f = shelf_says S p e in
        let back : T S + j.0 - T S ≡ j.0 = omega arith in
        let here_shelf : here S (T S + j.0) ≡ slot_in (slots_of s) j.0 = rw (le-ltb (T S + j.0) (T S) (omega arith), back, shelf-there d t s) refl in
        ap (λ (l : List ℕ). told (Answer.shown (Shown.part l)) S []) (el ∙ version_at s j.0 (below_shelf d t s p e) bytes ∙ sym (ap version here_shelf))
        ∙ shows_here S k one at on_desk fits f.0 (omega (arith, f.1))

    pub lies_shelf : {j : SlotNumber} {part tb sh : Bor (List ℕ)} → StartsAt part sh j.0 → Some (Found.OnShelf j) ≡ found_at S p → LiesAt part tb sh (T S) (peeked_at S k)
    lies_shelf {j} a e =
        let f = shelf_says S p e in
        let q : peeked_at S k ≡ T S + j.0 = stands_at S k one at on_desk fits f.0 (omega (arith, f.1)) in
        let back : peeked_at S k - T S ≡ j.0 = omega arith in
        record { in_table = λ z. absurd (omega arith); on_shelf = λ z. rw back a }

    pub peeks_nothing : None ≡ found_at (store_of d t s) p → told (Answer.shown (Shown.part [])) S [] ≡ step S (Call.reading (Reading.peek k))
    peeks_nothing e =
        let out = ltb-false (stop_for S p) (T S + R S) (by_nothing (stop_for S p) (T S) _ _ e) in
        shows_nothing S k one at on_desk fits out
