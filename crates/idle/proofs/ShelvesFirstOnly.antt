-- A store that shelves a version at the first change only, and is document 01's in all else, meets neither demand 2 nor demand 3.
use mathlib.Core.Path.{◌≡◌, refl, sym, ap, ◌∙◌, subst}
use mathlib.Core.Option.{Option, none, some}
use mathlib.Core.List.Memᴰ
use mathlib.Core.List.{List, [], ◌∷◌}
use Prim.Native.Nat.{ℕ, zero, suc, ◌/◌, ◌≤◌, ◌<◌}
use native.Mathlib.Omega.{arith}
use lib.ListN.{length, get_or, get_or-eq_default}
use Rattle.demands.specs.DemandThree.{Reads, Demand3}
use Rattle.demands.specs.DemandTwo.{Demand2}
use Rattle.demands.specs.History.{Version, History, needed}
use Rattle.idle.specs.Idle.{buffer, Later, ShelvesFirstOnly}
use Rattle.rules.specs.Passed.{All, LentBytes}
use Rattle.demands.specs.Lists.{standing}
use Rattle.demands.specs.Lives.{bytes_after}
use Rattle.demands.specs.Machine.{Machine, Within}
use Rattle.rules.specs.Answers.{Answer}
use Rattle.rules.specs.Bytes.{to_le}
use Rattle.rules.specs.Calls.{slot_in, used, given}
use Rattle.rules.specs.Memory.{Lent, free, slots_of, store_of, written, version}
use Rattle.rules.specs.Refusals.{Call, Change, Reply, first_of, refusals, effect, replied, called}
use Rattle.rules.proofs.RoundTrip.{written_read}
use Rattle.idle.proofs.BothAccepted.{told₂, both_accepted}
use Rattle.idle.proofs.BothHanded.{ask, ask_within, second_handed, third_handed}
use Rattle.demands.proofs.page.DemandOne.{accepted, demand_1}
use Rattle.demands.proofs.page.DemandThree.{demand_3}
use Rattle.demands.proofs.page.DemandTwo.{demand_2}
use Rattle.idle.proofs.HandsOut.{out-stands}
use Rattle.idle.proofs.InUse.{in_use_needed}
use Rattle.demands.proofs.lists.Lists.{perm_in}
use Rattle.demands.proofs.lists.Places.{at_standing}
use Rattle.demands.proofs.page.Lives.{well, all_live}
use Rattle.idle.proofs.ShelvesOnce.{first, second, first-within, second_within, v₁, AcceptsBoth, four_held, one_in_use, borne, two_in_use}
use Rattle.demands.proofs.machines.Small.{small, pair, body_of}
use Rattle.stores.proofs.Spelling.{to_right, count-read}

-- ---- document 01's store before the first change and before the second

pub ours-accepts : AcceptsBoth called
ours-accepts = both_accepted called demand_2

abbrev l₂ : Lent
l₂ = bytes_after called pair (Call.begin ∷ Call.change (Change.insert 1 (body_of 1)) ∷ [])

abbrev pub l₄ : Lent
l₄ = bytes_after called pair (Call.begin ∷ first)

none-used : used (slots_of l₂.shelf) ≡ 0
none-used =
    in_use_needed called demand_2 demand_3 pair (Call.begin ∷ Call.change (Change.insert 1 (body_of 1)) ∷ []) first-within.1
    ∙ ap (λ (h : History). length (needed h)) (told₂ called demand_2)

-- a body's first byte, among the 56 of number and body
abbrev day : List ℕ → ℕ
day u = get_or u 4 0

-- the shelf holds the first version only
first_shelved : (i : ℕ) → day (version (slot_in (slots_of l₄.shelf) i)) ≤ 1
unfolding to_le body_of
first_shelved i = go (get_or (four_held called ours-accepts demand_3).which i none) refl ((four_held called ours-accepts demand_3).spelt i)
  where
    go : (o : Option Version) → get_or (four_held called ours-accepts demand_3).which i none ≡ o → Reads (slot_in (slots_of l₄.shelf) i) o → day (version (slot_in (slots_of l₄.shelf) i)) ≤ 1
    go none e w = rw w (omega arith)
    go (some v) e w =
        let h = four_held called ours-accepts demand_3 in
        let z : v ≡ v₁ = Memᴰ.eq_of_singleton (perm_in v (standing h.which) (v₁ ∷ []) h.each (at_standing h.which i v e)) in
        rw (w.0, w.1, z) (omega arith)

-- ---- a table of one slot, and no later version on the shelf

-- the slot's version begins with x
abbrev Slotted : Lent → ℕ → Type 0
Slotted l x = day (version (slot_in (slots_of l.table) 0)) ≡ x

-- any version but the first that is handed out stands in the slot
in_slot : (l : Lent) (t x : ℕ) → length (slots_of l.table) ≡ 1 → ((i : ℕ) → day (version (slot_in (slots_of l.shelf) i)) ≤ 1) → 2 ≤ x → day (called l (Call.next t 3 buffer)).out ≡ x → Slotted l x
unfolding store_of to_le buffer
in_slot l t x one e h = out-stands (λ u. day u ≡ x → Slotted l x) l t 3 buffer (record { table = table; shelf = λ i. other (day (version (slot_in (slots_of l.shelf) i))) (e i) }) (other 0 (omega arith))
  where
    other : (y : ℕ) → y ≤ 1 → y ≡ x → Slotted l x
    other y q z = absurd (omega arith)

    table : (i : ℕ) → day (version (slot_in (slots_of l.table) i)) ≡ x → Slotted l x
    table zero = λ q. q
    table (suc i) = rw (get_or-eq_default (slots_of l.table) free {n = suc i} (omega arith)) (other 0 (omega arith))

-- ---- begin leaves table and shelf

begin-leaves : (l : Lent) → LentBytes l → ((called l Call.begin).after.table ≡ l.table) × ((called l Call.begin).after.shelf ≡ l.shelf)
unfolding called replied effect written given store_of
begin-leaves l a = go (first_of (refusals l Call.begin)) refl
  where
    go : (r : Option ℕ) → first_of (refusals l Call.begin) ≡ r → ((replied r l Call.begin).after.table ≡ l.table) × ((replied r l Call.begin).after.shelf ≡ l.shelf)
    go none e = let b = written_read l (to_right l a (accepted l Call.begin e).lengths) in (ap (λ (m : Lent). m.table) b, ap (λ (m : Lent). m.shelf) b)
    go (some k) e = (refl, refl)

-- ---- up to the second change the bytes are document 01's

abbrev pub c₅ : Call
c₅ = Call.change (Change.modify 1 (body_of 3))

bytes-before : LentBytes l₄
bytes-before = (all_live pair (Call.begin ∷ first) second_within.1).bytes

module _ (M : Machine) (f : ShelvesFirstOnly M) where
  same : (cs : List Call) (c : Call) → All Within (c ∷ cs) → (Later (bytes_after called pair cs) c → ⊥) → bytes_after M pair cs ≡ bytes_after called pair cs → M (bytes_after M pair cs) c ≡ called (bytes_after called pair cs) c
  same cs c w q e = ap (λ (l : Lent). M l c) e ∙ f.otherwise (bytes_after called pair cs) c (all_live pair cs w.1).bytes (well c w.0) q

  same₀ : M pair.old (Call.opening pair.n) ≡ called pair.old (Call.opening pair.n)
  unfolding pair
  same₀ = f.otherwise pair.old (Call.opening 3) pair.bytes (omega arith) (λ q. q.0)

  same₁ : M (bytes_after M pair []) (Call.change (Change.insert 1 (body_of 1))) ≡ called (bytes_after called pair []) (Call.change (Change.insert 1 (body_of 1)))
  unfolding bytes_after
  same₁ = same [] (Call.change (Change.insert 1 (body_of 1))) first-within.1.1 (λ q. q.0) (ap (λ (r : Reply). r.after) same₀)

  same₂ : M (bytes_after M pair (Call.change (Change.insert 1 (body_of 1)) ∷ [])) Call.begin ≡ called (bytes_after called pair (Call.change (Change.insert 1 (body_of 1)) ∷ [])) Call.begin
  unfolding bytes_after
  same₂ = same (Call.change (Change.insert 1 (body_of 1)) ∷ []) Call.begin first-within.1 (λ q. q.0) (ap (λ (r : Reply). r.after) same₁)

  same₃ : M (bytes_after M pair (Call.begin ∷ Call.change (Change.insert 1 (body_of 1)) ∷ [])) (Call.change (Change.modify 1 (body_of 2))) ≡ called l₂ (Call.change (Change.modify 1 (body_of 2)))
  unfolding bytes_after
  same₃ = same (Call.begin ∷ Call.change (Change.insert 1 (body_of 1)) ∷ []) (Call.change (Change.modify 1 (body_of 2))) first-within (λ q. omega (arith, q.1, none-used)) (ap (λ (r : Reply). r.after) same₂)

  same₄ : M (bytes_after M pair first) Call.begin ≡ called (bytes_after called pair first) Call.begin
  unfolding bytes_after
  same₄ = same first Call.begin (tt, first-within) (λ q. q.0) (ap (λ (r : Reply). r.after) same₃)

  bytes₄ : bytes_after M pair (Call.begin ∷ first) ≡ l₄
  unfolding bytes_after
  bytes₄ = ap (λ (r : Reply). r.after) same₄

  -- it accepts both changes if it accepts the second
  accepts : (M l₄ c₅).answer ≡ Answer.done → AcceptsBoth M
  accepts e =
      let a = ours-accepts in
      record {
        opened = ap (λ (r : Reply). r.answer) same₀ ∙ a.opened;
        inserted = ap (λ (r : Reply). r.answer) same₁ ∙ a.inserted;
        begun = ap (λ (r : Reply). r.answer) same₂ ∙ a.begun;
        modified = ap (λ (r : Reply). r.answer) same₃ ∙ a.modified;
        again = ap (λ (r : Reply). r.answer) same₄ ∙ a.again;
        last = ap (λ (l : Lent). (M l c₅).answer) bytes₄ ∙ e;
      }

  -- ---- the second change leaves the shelf

  abbrev l₅ : Lent
  l₅ = (M l₄ c₅).after

  bytes₅ : bytes_after M pair second ≡ l₅
  unfolding bytes_after
  bytes₅ = ap (λ (l : Lent). (M l c₅).after) bytes₄

  shelf₅ : l₅.shelf ≡ l₄.shelf
  shelf₅ = f.leaves l₄ 1 (some (body_of 3)) bytes-before second_within.0 (borne called ours-accepts demand_3)

  pub shelves_first_only_caught_3 : (M l₄ c₅).answer ≡ Answer.done → Demand3 M → ⊥
  shelves_first_only_caught_3 a d =
      let e : used (slots_of (bytes_after M pair second).shelf) ≡ 1 = ap (λ (l : Lent). used (slots_of l.shelf)) bytes₅ ∙ ap (λ (b : List ℕ). used (slots_of b)) shelf₅ ∙ one_in_use called ours-accepts demand_3 in
      omega (arith, two_in_use M (accepts a) d)

  -- ---- the second version and the third stand in one slot

  are_bytes : LentBytes l₅
  are_bytes = f.bytes l₄ 1 (some (body_of 3)) bytes-before second_within.0

  one-slot : length (slots_of l₅.table) ≡ 1
  unfolding store_of pair small
  one-slot = count-read l₅.table ∙ ap (λ (n : ℕ). n / 64) (f.lengths l₄ 1 (some (body_of 3)) bytes-before second_within.0).table ∙ sym (count-read l₄.table) ∙ (all_live pair (Call.begin ∷ first) second_within.1).keeps.is_t

  shelved₅ : (i : ℕ) → day (version (slot_in (slots_of l₅.shelf) i)) ≤ 1
  shelved₅ i = subst (λ (s : List ℕ). day (version (slot_in (slots_of s) i)) ≤ 1) (sym shelf₅) (first_shelved i)

  abbrev l₆ : Lent
  l₆ = (called l₅ Call.begin).after

  bytes₆ : bytes_after M pair (Call.begin ∷ second) ≡ l₆
  unfolding bytes_after
  bytes₆ = ap (λ (l : Lent). (M l Call.begin).after) bytes₅ ∙ ap (λ (r : Reply). r.after) (f.otherwise l₅ Call.begin are_bytes tt (λ q. q.0))

  asked : (m l : Lent) (t x : ℕ) → t < 4294967296 → LentBytes l → m ≡ l → day (M m (ask t)).out ≡ x → day (called l (ask t)).out ≡ x
  asked m l t x h a e q = sym (ap (λ (r : Reply). day r.out) (ap (λ (y : Lent). M y (ask t)) e ∙ f.otherwise l (ask t) a (ask_within t h) (λ z. z.0))) ∙ q

  pub shelves_first_only_caught : Demand2 M → ⊥
  unfolding to_le body_of
  shelves_first_only_caught d =
      let b = begin-leaves l₅ are_bytes in
      let x : Slotted l₅ 2 = in_slot l₅ 2 2 one-slot shelved₅ (omega arith) (asked (bytes_after M pair second) l₅ 2 2 (omega arith) are_bytes bytes₅ (ap day (second_handed M d))) in
      let y : Slotted l₆ 3 = in_slot l₆ 3 3 (ap (λ (t : List ℕ). length (slots_of t)) b.0 ∙ one-slot) (λ i. subst (λ (s : List ℕ). day (version (slot_in (slots_of s) i)) ≤ 1) (sym b.1) (shelved₅ i)) (omega arith) (asked (bytes_after M pair (Call.begin ∷ second)) l₆ 3 3 (omega arith) (demand_1.bytes l₅ Call.begin are_bytes tt) bytes₆ (ap day (third_handed M d))) in
      let z : Slotted l₅ 3 = subst (λ (t : List ℕ). day (version (slot_in (slots_of t) 0)) ≡ 3) b.0 y in
      omega arith
