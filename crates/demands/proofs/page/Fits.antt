-- The answers of document 01's calls are of each call's own kind, and in its ranges.
use mathlib.Core.Path.{◌≡◌, refl, ap}
use mathlib.Core.Bool.{Bool, true, false}
use mathlib.Core.Option.{some}
use mathlib.Core.List.{List, [], ◌∷◌}
use mathlib.Core.Logic.{◌⊎◌, inl, inr}
use Prim.Native.Nat.{ℕ, suc, ◌+◌, ◌≤◌, ◌<◌}
use native.Mathlib.Omega.{arith}
use lib.ListN.{length}
use borrow.Author.Tests.{eqb-true}
use Rattle.demands.specs.Fits.{OfNext, Fits}
use Rattle.rules.specs.Answers.{Answer, Draw}
use Rattle.rules.specs.Calls.{card_of, position_of, in_use, count, used, owed_by}
use Rattle.rules.specs.Memory.{Lent, Slot, Store, T, R}
use Rattle.rules.specs.Next.{look, at_end, walk}
use Rattle.rules.specs.Refusals.{Call, Reading, first_of, refusals, own_refusals, looks_at_desk, no_scan, effect, refused_as}
use Rattle.stores.proofs.Codec.{length-version}
use Rattle.stores.proofs.FirstOf.{Untrue}
use Rattle.stores.proofs.LooksFine.{BusyAt, not_at_end, look_fine, look_place, look_found, look_busy, ticket_busy}
use Rattle.stores.proofs.OnePosition.{Fine}
use Rattle.demands.proofs.page.Rising.{refused-within}
use Rattle.stores.proofs.Stays.{ticket-left, at_position, ticket-some, ticket-there, look_kept}
use Rattle.rules.proofs.Walk.{walk_ind}

-- ---- a refusal

refused_of : (c : Call) (k : ℕ) → 1 ≤ k → k ≤ 11 → Fits c (refused_as c k)
unfolding refused_as Fits
refused_of (Call.opening n) k h m = inr (k, h, m, refl)
refused_of (Call.change c) k h m = inr (k, h, m, refl)
refused_of Call.begin k h m = inr (k, h, m, refl)
refused_of (Call.next t b o) k h m = inr (k, h, m, refl)
refused_of (Call.reading (Reading.peek t)) k h m = ([], inl refl, refl)
refused_of (Call.reading Reading.tally) k h m = inr (k, h, m, refl)
refused_of (Call.reading (Reading.owed t)) k h m = inr (k, h, m, refl)

pub refused-fits : (l : Lent) (c : Call) (k : ℕ) → first_of (refusals l c) ≡ some k → Fits c (refused_as c k)
refused-fits l c k e = let w = refused-within l c k e in refused_of c k w.0 w.1

-- ---- the looks of one call

record Far (p budget : ℕ) (S : Store) (l b : ℕ) : Type 0 where
  fine : Fine S
  busy : BusyAt S p
  sum : l + b ≡ budget
  looks : l ≤ (card_of S p).place
  size : T S + R S ≤ 1064960

module _ (S : Store) (f : Fine S) (n : T S + R S ≤ 1064960) (p : ℕ) (hp : p < 64) (y : BusyAt S p) (b : ℕ) (o : List ℕ) where
  on : (X : Store) (l c : ℕ) → Far p b X l (suc c) → at_end X p ≡ false → Far p b (look X p).0 (suc l) c
  on X l c h e =
      let k = look_kept X p in
      record {
        fine = look_fine X h.fine p hp h.busy e;
        busy = look_busy X h.fine p hp h.busy e;
        sum = (let s : l + suc c ≡ b = h.sum in omega arith);
        looks = omega (arith, look_place X h.fine p hp h.busy e, h.looks);
        size = omega (arith, k.slots, k.entries, h.size);
      }

  start : Far p b S 0 b
  start = record { fine = f; busy = y; sum = omega arith; looks = omega arith; size = n }

  next_fits : OfNext b (walk S p b 0 o).answer
  next_fits =
      walk_ind p o (Far p b) (λ r. OfNext b r.answer) stop rest (λ X l c h e q. on X l c h e) hit b S 0 start
    where
      stop : (X : Store) (l c : ℕ) → Far p b X l c → at_end X p ≡ true → OfNext b (Answer.drew (Draw.finished l c (card_of X p).handed))
      stop X l c h e =
          let z : (card_of X p).place ≡ T X + R X = eqb-true _ _ e in
          inr (inr (l, c, (card_of X p).handed, omega (arith, h.looks, h.size), omega (arith, h.busy.handed, h.size), h.sum, refl))

      rest : (X : Store) (l : ℕ) → Far p b X l 0 → at_end X p ≡ false → OfNext b (Answer.drew (Draw.paused l))
      rest X l h e =
          let s : l + 0 ≡ b = h.sum in
          let z : l ≡ b = omega arith in
          inr (inl (omega (arith, h.looks, h.size, not_at_end X h.fine p hp h.busy e), ap (λ (z : ℕ). Answer.drew (Draw.paused z)) z))

      hit : (X : Store) (l c : ℕ) (v : Slot) → Far p b X l (suc c) → at_end X p ≡ false → (look X p).1 ≡ some v → OfNext b (Answer.drew (Draw.in_hand (suc l) c))
      hit X l c v h e q =
          let s : l + suc c ≡ b = h.sum in
          inl (suc l, c, omega arith, omega (arith, h.looks, h.size, not_at_end X h.fine p hp h.busy e), omega arith, refl)

  -- the hand-out buffer stays as it is, or 56 bytes are written
  out-fits : ((walk S p b 0 o).out ≡ o) ⊎ (length (walk S p b 0 o).out ≡ 56)
  out-fits =
      walk_ind p o (Far p b) (λ r. (r.out ≡ o) ⊎ (length r.out ≡ 56)) (λ X l c h e. inl refl) (λ X l h e. inl refl) (λ X l c h e q. on X l c h e)
      (λ X l c v h e q. inr (length-version v (look_found X h.fine p v q).body)) b S 0 start

-- ---- what is counted

count_most : (p : Slot → Bool) (l : List Slot) → count p l ≤ length l
unfolding count
count_most p [] = omega arith
count_most p (x ∷ l) = go (p x) (count_most p l)
  where
    go : (b : Bool) → count p l ≤ length l → elim b as (λ y. ℕ) [ true ↦ suc (count p l) | false ↦ count p l ] ≤ suc (length l)
    go true h = omega arith
    go false h = omega arith

-- ---- a call that is not refused

module _ (S : Store) (slots : T S ≤ 16384) (entries : R S ≤ 1048576) where
  scan_busy : Fine S → (t : ℕ) → no_scan S t ≡ false → BusyAt S (position_of S t)
  scan_busy f t u = ticket_busy S f (position_of S t) (at_position S t u) (omega (arith, ticket-there S t u, ticket-some S t u))

  both_most : (p q : Slot → Bool) → count p S.table + count q S.shelf ≤ 1064960
  both_most p q = omega (arith, count_most p S.table, count_most q S.shelf)

  pub effect-fits : (c : Call) → (looks_at_desk c ≡ true → Fine S) → Untrue (own_refusals S c) → Fits c (effect S c).answer
  unfolding effect own_refusals looks_at_desk Fits
  effect-fits (Call.opening n) f u = inl refl
  effect-fits (Call.change c) f u = inl refl
  effect-fits Call.begin f u = inl (S.desk.last + 1, omega arith, omega (arith, ticket-left S (f refl) u.1.0), refl)
  effect-fits (Call.next t b o) f u = inl (next_fits S (f refl) (omega arith) (position_of S t) (at_position S t u.0) (scan_busy (f refl) t u.0) b o)
  effect-fits (Call.reading (Reading.peek t)) f u =
      ((walk S (position_of S t) (T S + R S) 0 []).out, out-fits S (f refl) (omega arith) (position_of S t) (at_position S t u.0) (scan_busy (f refl) t u.0) (T S + R S) [], refl)
  effect-fits (Call.reading Reading.tally) f u =
      inl (used S.table, used S.shelf, omega (arith, count_most in_use S.table), omega (arith, count_most in_use S.shelf), refl)
  effect-fits (Call.reading (Reading.owed t)) f u = inl (owed_by S (position_of S t), both_most _ _, refl)
