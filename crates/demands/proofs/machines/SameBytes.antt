-- The page leaves no byte open: two machines that meet it, and put newcomers in the same places, leave the same bytes after every list of
-- calls and hand out the same.
use mathlib.Core.Path.{◌≡◌, refl, sym, ap, ◌∙◌}
use mathlib.Core.Bool.{Bool, not, ◌&&◌}
use mathlib.Core.Option.{Option, none, some}
use mathlib.Core.List.{List, [], ◌∷◌}
use Prim.Native.Nat.{ℕ, ◌+◌, ◌/◌, ◌%◌, ◌^◌, ◌≤◌, ◌<◌}
use native.Mathlib.Omega.{arith}
use native.Mathlib.Decide.{ℕ_discrete}
use lib.ListN.{length, get_or}
use lib.Seq.{ext_get_or}
use Rattle.demands.specs.DemandOne.{SameLengths, Demand1}
use Rattle.demands.specs.DemandThree.{Reads}
use Rattle.demands.specs.History.{Version, Scan, History}
use Rattle.rules.specs.Passed.{All, LentBytes, LengthsRight}
use Rattle.demands.specs.Lives.{Opening, table_slots, shelf_entries, bytes_after, past}
use Rattle.demands.specs.Machine.{Machine, Within}
use Rattle.demands.specs.Masks.{one_if, none_runs, walks, waits_for, masks_after, status_after, remset_after, walking, waits, walks_ended, in_slot, in_entry, MasksMean, MasksMove}
use Rattle.demands.specs.Page.{Meets}
use Rattle.demands.specs.Placement.{Placing, Places, sitting, places_after, stands_at}
use Rattle.demands.specs.Spelt.{card_with, Spells, Spelt}
use Rattle.rules.specs.Answers.{number}
use Rattle.rules.specs.Masks.{bit}
use Rattle.rules.specs.Memory.{Slot, free, idle, store_of, read, written}
use Rattle.rules.specs.Refusals.{Call}
use Rattle.rules.proofs.Bits.{bit_low, bit-xor, bit_ext}
use Rattle.rules.proofs.RoundTrip.{written_read}
use Rattle.demands.proofs.page.Lives.{well}
use Rattle.demands.proofs.machines.OneHistory.{OneHistory, one-history, same-answers, same_outs}
use Rattle.stores.proofs.Sizes.{Sized}
use Rattle.stores.proofs.SoundDesk.{range}
use Rattle.stores.proofs.Spelling.{to_lengths, to_right, count-read, read_sized}

-- ---- the buffers of a life

module _ (M : Machine) (d : Demand1 M) (o : Opening) where
  pub small : o.n < 4294967296
  small = let w = range o.n o.in_range in let y : o.n ≤ 64 = w.1 in omega arith

  pub life_bytes : (cs : List Call) → All Within cs → LentBytes (bytes_after M o cs)
  unfolding bytes_after
  life_bytes [] ws = d.bytes o.old (Call.opening o.n) o.bytes small
  life_bytes (c ∷ cs) ws = d.bytes (bytes_after M o cs) c (life_bytes cs ws.1) (well c ws.0)

  pub life_lengths : (cs : List Call) → All Within cs → SameLengths o.old (bytes_after M o cs)
  unfolding bytes_after
  life_lengths [] ws = d.lengths o.old (Call.opening o.n) o.bytes small
  life_lengths (c ∷ cs) ws =
      let a = life_lengths cs ws.1 in
      let b = d.lengths (bytes_after M o cs) c (life_bytes cs ws.1) (well c ws.0) in
      record { desk = b.desk ∙ a.desk; table = b.table ∙ a.table; shelf = b.shelf ∙ a.shelf }

  pub life_right : (cs : List Call) → All Within cs → LengthsRight (bytes_after M o cs)
  life_right cs ws = let a = life_lengths cs ws in rw (a.desk, a.table, a.shelf) o.lengths

  pub life_sized : (cs : List Call) → All Within cs → Sized (read (bytes_after M o cs))
  life_sized cs ws = read_sized (bytes_after M o cs) (life_bytes cs ws) (to_lengths (bytes_after M o cs) (life_right cs ws)).desk

  pub life_slots : (cs : List Call) → All Within cs → length (read (bytes_after M o cs)).table ≡ table_slots o
  unfolding store_of
  life_slots cs ws = count-read (bytes_after M o cs).table ∙ ap (λ (n : ℕ). n / 64) (life_lengths cs ws).table

  pub life_entries : (cs : List Call) → All Within cs → length (read (bytes_after M o cs)).shelf ≡ shelf_entries o
  unfolding store_of
  life_entries cs ws = count-read (bytes_after M o cs).shelf ∙ ap (λ (n : ℕ). n / 64) (life_lengths cs ws).shelf

-- ---- two slots that read as one version, and whose masks agree

same-mask : (x y : ℕ) → x < 2 ^ 64 → y < 2 ^ 64 → ((i : ℕ) → i < 64 → bit x i ≡ bit y i) → x ≡ y
same-mask x y a b f = bit_ext 64 x y a b f

same-slot : (s t : Slot) (o : Option Version) → Reads s o → Reads t o → ((v : Version) → o ≡ some v → s.mask ≡ t.mask) → s ≡ t
same-slot s t none a b m = a ∙ sym b
same-slot s t (some v) a b m = λ i. record { number = (a.0 ∙ sym b.0) i; body = (a.1 ∙ sym b.1) i; mask = m v refl i }

module _ (M K : Machine) (P : Placing) (m : Meets M P) (k : Meets K P) (o : Opening) where
  here : (cs : List Call) → All Within cs → OneHistory M K P m.two m.next k.two k.next o cs
  here cs ws = one-history M K P m.two m.next k.two k.next o cs ws

  same-stands : (cs : List Call) → All Within cs → (i : ℕ) → stands_at K P o cs i ≡ stands_at M P o cs i
  same-stands cs ws i = let z = here cs ws in λ j. sitting (z.tell j) (z.places j) i

  same-walking : (cs : List Call) → All Within cs → (i : ℕ) → walking K o P cs i ≡ walking M o P cs i
  same-walking cs ws i = ap (walks (table_slots o)) (same-stands cs ws i)

  same-waits : (cs : List Call) → All Within cs → (i : ℕ) (v : Version) → waits K o P cs i v ≡ waits M o P cs i v
  same-waits cs ws i v = ap (λ (s : Option Scan). waits_for s v) (same-stands cs ws i)

  same_ended : (cs : List Call) → All Within cs → (i : ℕ) → walks_ended K o P cs i ≡ walks_ended M o P cs i
  unfolding walks_ended
  same_ended [] ws i = refl
  same_ended (c ∷ cs) ws i = λ j. same_ended cs ws.1 i j + one_if (same-walking cs ws.1 i j && not (same-walking (c ∷ cs) ws i j))

  module _ (cs : List Call) (ws : All Within cs) where
    mm : MasksMean M o P cs
    unfolding MasksMove
    mm = m.masks o (m.two.opens o) cs ws

    km : MasksMean K o P cs
    unfolding MasksMove
    km = k.masks o (k.two.opens o) cs ws

    ms : Spells o.n (table_slots o) (shelf_entries o) (past M o cs) (places_after M P o cs) (read (bytes_after M o cs))
    unfolding Spelt
    ms = m.spelt o (m.two.opens o) cs ws

    ks : Spells o.n (table_slots o) (shelf_entries o) (past K o cs) (places_after K P o cs) (read (bytes_after K o cs))
    unfolding Spelt
    ks = k.spelt o (k.two.opens o) cs ws

    mz : Sized (read (bytes_after M o cs))
    mz = life_sized M m.one o cs ws

    kz : Sized (read (bytes_after K o cs))
    kz = life_sized K k.one o cs ws

    stable-same : (masks_after K o cs).stable ≡ (masks_after M o cs).stable
    stable-same = same-mask _ _ kz.desk.stable mz.desk.stable (λ i hi. km.stable i hi ∙ ap (λ (n : ℕ). n % 2) (same_ended cs ws i) ∙ sym (mm.stable i hi))

    active-same : (masks_after K o cs).active ≡ (masks_after M o cs).active
    active-same = same-mask _ _ kz.desk.active mz.desk.active (λ i hi. km.active i hi ∙ ap (λ (s : Option Scan). one_if (none_runs s)) (same-stands cs ws i) ∙ sym (mm.active i hi))

    local_same : (masks_after K o cs).local ≡ (masks_after M o cs).local
    local_same = same-mask _ _ kz.desk.local mz.desk.local (λ i hi. km.local i hi ∙ ap (λ (b : Bool). one_if (not b)) (same-walking cs ws i) ∙ sym (mm.local i hi))

    -- the versions stand in the same places
    table_same : (j : ℕ) → in_slot K o P cs j ≡ in_slot M o P cs j
    table_same j = ap (λ (p : Places). get_or p.table j none) (here cs ws).places

    shelf-same : (j : ℕ) → in_entry K o P cs j ≡ in_entry M o P cs j
    shelf-same j = ap (λ (p : Places). get_or p.shelf j none) (here cs ws).places

    status-same : (j : ℕ) (v : Version) → in_slot M o P cs j ≡ some v → status_after K o cs j ≡ status_after M o cs j
    status-same j v e = same-mask _ _ (kz.table j).mask (mz.table j).mask bits
      where
        bits : (i : ℕ) → i < 64 → bit (status_after K o cs j) i ≡ bit (status_after M o cs j) i
        bits i hi =
            let a = sym (bit-xor (masks_after K o cs).stable (status_after K o cs j) i) ∙ km.status j v (table_same j ∙ e) i hi in
            let b = sym (bit-xor (masks_after M o cs).stable (status_after M o cs j) i) ∙ mm.status j v e i hi in
            let c : one_if (walking K o P cs i && not (waits K o P cs i v)) ≡ one_if (walking M o P cs i && not (waits M o P cs i v)) = λ x. one_if (same-walking cs ws i x && not (same-waits cs ws i v x)) in
            omega (arith, a, b, ap (λ (x : ℕ). bit x i) stable-same, bit_low (status_after K o cs j) i, bit_low (status_after M o cs j) i)

    remset-same : (j : ℕ) (v : Version) → in_entry M o P cs j ≡ some v → remset_after K o cs j ≡ remset_after M o cs j
    remset-same j v e =
        same-mask _ _ (kz.shelf j).mask (mz.shelf j).mask (λ i hi. km.remset j v (shelf-same j ∙ e) i hi ∙ ap (λ (b : Bool). one_if (not b)) (same-waits cs ws i v) ∙ sym (mm.remset j v e i hi))

    slots_same : (read (bytes_after K o cs)).table ≡ (read (bytes_after M o cs)).table
    slots_same =
        ext_get_or free (read (bytes_after K o cs)).table (read (bytes_after M o cs)).table (life_slots K k.one o cs ws ∙ sym (life_slots M m.one o cs ws))
        (λ j _. same-slot _ _ (in_slot M o P cs j) (rw (table_same j) at (ks.table j)) (ms.table j) (λ v e. status-same j v e))

    entries-same : (read (bytes_after K o cs)).shelf ≡ (read (bytes_after M o cs)).shelf
    entries-same =
        ext_get_or free (read (bytes_after K o cs)).shelf (read (bytes_after M o cs)).shelf (life_entries K k.one o cs ws ∙ sym (life_entries M m.one o cs ws))
        (λ j _. same-slot _ _ (in_entry M o P cs j) (rw (shelf-same j) at (ks.shelf j)) (ms.shelf j) (λ v e. remset-same j v e))

    cards-same : (read (bytes_after K o cs)).desk.cards ≡ (read (bytes_after M o cs)).desk.cards
    cards-same =
        ext_get_or idle (read (bytes_after K o cs)).desk.cards (read (bytes_after M o cs)).desk.cards (kz.desk.all ∙ sym mz.desk.all)
        (λ i hi. let h : i < 64 = omega (arith, kz.desk.all) in ks.cards i h ∙ ap card_with (same-stands cs ws i) ∙ sym (ms.cards i h))

    reads_same : read (bytes_after K o cs) ≡ read (bytes_after M o cs)
    reads_same =
        let z = here cs ws in
        λ j. record {
          desk = record {
            n = (ks.n ∙ sym ms.n) j;
            t = (ks.t ∙ sym ms.t) j;
            r = (ks.r ∙ sym ms.r) j;
            last = (ks.last ∙ ap (λ (h : History). h.given) z.tell ∙ sym ms.last) j;
            masks = record { stable = stable-same j; active = active-same j; local = local_same j };
            zeros = (ks.zeros ∙ sym ms.zeros) j;
            cards = cards-same j;
          };
          table = slots_same j;
          shelf = entries-same j;
        }

    -- every byte of desk, table and shelf
    pub same_bytes : bytes_after K o cs ≡ bytes_after M o cs
    same_bytes = sym (spelt_by K k.one) ∙ ap written reads_same ∙ spelt_by M m.one
      where
        spelt_by : (X : Machine) (d : Demand1 X) → written (read (bytes_after X o cs)) ≡ bytes_after X o cs
        spelt_by X d = written_read (bytes_after X o cs) (to_right (bytes_after X o cs) (life_bytes X d o cs ws) (life_right X d o cs ws))

    -- and of next's hand-out buffer
    pub same_hand_outs : (t b : ℕ) (out : List ℕ) → Within (Call.next t b out) → (K (bytes_after K o cs) (Call.next t b out)).out ≡ (M (bytes_after M o cs) (Call.next t b out)).out
    same_hand_outs t b out w = go (ℕ_discrete (number (K (bytes_after K o cs) c).answer) 0)
      where
        c : Call
        c = Call.next t b out

        go : Dec (number (K (bytes_after K o cs) c).answer ≡ 0) → (K (bytes_after K o cs) c).out ≡ (M (bytes_after M o cs) c).out
        go (yes z) = same_outs M K P m.two m.next k.two k.next o cs ws t b out w z
        go (no z) =
            k.one.leaves_out (bytes_after K o cs) c (life_bytes K k.one o cs ws) (well c w) z
            ∙ sym (m.one.leaves_out (bytes_after M o cs) c (life_bytes M m.one o cs ws) (well c w) (λ y. z (ap number (same-answers M K P m.two m.next k.two k.next o cs ws c w) ∙ y)))
