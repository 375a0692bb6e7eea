-- Whatever meets the contracts of the exported functions lives, call after call, the life of document 01's store.
use mathlib.Core.Path.{◌≡◌, refl, sym, ap, ◌∙◌, subst}
use mathlib.Core.Bool.{Bool, true, false, cond}
use mathlib.Core.List.{List, [], ◌∷◌}
use Rattle.demands.specs.DemandOne.{SameLengths, Untouched, Demand1}
use Rattle.demands.specs.DemandThree.{Holds, Demand3}
use Rattle.demands.specs.DemandTwo.{Answers, Demand2}
use Rattle.demands.specs.Fits.{Fits}
use Rattle.demands.specs.History.{History, needed, tells}
use Rattle.demands.specs.Host.{Host, Exports, hears, heard_by, HostLives}
use Rattle.rules.specs.Passed.{All, Well, LentBytes}
use Rattle.demands.specs.Lives.{Opening, table_slots, shelf_entries, bytes_after, events, past}
use Rattle.demands.specs.Machine.{Machine, Within, exported}
use Rattle.demands.specs.Packing.{unpacked}
use Rattle.demands.specs.Reasons.{reason}
use Rattle.rules.specs.Answers.{Answer, number}
use Rattle.rules.specs.Memory.{Lent, read}
use Rattle.rules.specs.Refusals.{Call, Reply, reply, refused_as, out_of, called, Returned}
use Rattle.rules.specs.Sound.{sound}
use Rattle.demands.proofs.page.DemandOne.{demand_1}
use Rattle.demands.proofs.page.DemandThree.{demand_3}
use Rattle.demands.proofs.page.DemandTwo.{demand_2}
use Rattle.demands.proofs.page.Lives.{well}
use Rattle.demands.proofs.page.Packing.{unpacks}
use Rattle.demands.proofs.machines.SameBytes.{small, life_bytes}

-- ---- two machines that are one on bytes and well-formed calls meet the demands together

module _ (M K : Machine) (same : (l : Lent) (c : Call) → LentBytes l → Well c → M l c ≡ K l c) (d : Demand1 K) where
  one_too : Demand1 M
  one_too =
      record {
        refuses = λ l c k a w e. subst (λ (r : Reply). (r.answer ≡ refused_as c k) × Untouched l c r) (sym (same l c a w)) (d.refuses l c k a w e);
        accepts = λ l c k a w e f. d.accepts l c k a w e (sym (ap (λ (r : Reply). r.answer) (same l c a w)) ∙ f);
        fits = λ l c a w. subst (λ (r : Reply). Fits c r.answer) (sym (same l c a w)) (d.fits l c a w);
        leaves_out = λ l c a w. subst (λ (r : Reply). (number r.answer ≡ 0 → ⊥) → r.out ≡ out_of c) (sym (same l c a w)) (d.leaves_out l c a w);
        lengths = λ l c a w. subst (λ (r : Reply). SameLengths l r.after) (sym (same l c a w)) (d.lengths l c a w);
        bytes = λ l c a w. subst (λ (r : Reply). LentBytes r.after) (sym (same l c a w)) (d.bytes l c a w);
        stays_sound = λ l c a w h s. ap (λ (r : Reply). sound (read r.after)) (same l c a w) ∙ d.stays_sound l c a w h s;
        opens_sound = λ l n a w.
            subst (λ (r : Reply). r.answer ≡ Answer.done → sound (read r.after) ≡ true) (sym (same l (Call.opening n) a w)) (d.opens_sound l n a w);
      }

  module _ (o : Opening) where
    opening-same : M o.old (Call.opening o.n) ≡ K o.old (Call.opening o.n)
    opening-same = same o.old (Call.opening o.n) o.bytes (small K d o)

    bytes_same : (cs : List Call) → All Within cs → bytes_after M o cs ≡ bytes_after K o cs
    unfolding bytes_after
    bytes_same [] ws = ap (λ (r : Reply). r.after) opening-same
    bytes_same (c ∷ cs) ws =
        ap (λ (l : Lent). (M l c).after) (bytes_same cs ws.1) ∙ ap (λ (r : Reply). r.after) (same (bytes_after K o cs) c (life_bytes K d o cs ws.1) (well c ws.0))

    reply-same : (cs : List Call) → All Within cs → (c : Call) → Within c → M (bytes_after M o cs) c ≡ K (bytes_after K o cs) c
    reply-same cs ws c w = ap (λ (l : Lent). M l c) (bytes_same cs ws) ∙ same (bytes_after K o cs) c (life_bytes K d o cs ws) (well c w)

    events-same : (cs : List Call) → All Within cs → events M o cs ≡ events K o cs
    unfolding events
    events-same [] ws = refl
    events-same (c ∷ cs) ws =
        let r = reply-same cs ws.1 c ws.0 in
        let es = events-same cs ws.1 in
        λ i. record { call = c; answer = (r i).answer; out = (r i).out } ∷ es i

  two_too : Demand2 K → Demand2 M
  two_too t =
      record {
        opens = λ o. ap (λ (r : Reply). r.answer) (opening-same o) ∙ t.opens o;
        alike = λ o p n e f. bytes_same o [] tt ∙ t.alike o p n e f ∙ sym (bytes_same p [] tt);
        answers = λ o cs ws c w.
            let r = reply-same o cs ws c w in
            subst (λ (h : History). Answers (table_slots o) (shelf_entries o) h (reason o.n (table_slots o) (shelf_entries o) h c) c (M (bytes_after M o cs) c).answer (M (bytes_after M o cs) c).out)
            (sym (ap tells (events-same o cs ws)))
            (subst (λ (x : Reply). Answers (table_slots o) (shelf_entries o) (past K o cs) (reason o.n (table_slots o) (shelf_entries o) (past K o cs) c) c x.answer x.out) (sym r) (t.answers o cs ws c w));
      }

  three_too : ((o : Opening) → (K o.old (Call.opening o.n)).answer ≡ Answer.done) → Demand3 K → Demand3 M
  three_too a t =
      record {
        shelf = λ o x cs ws.
            subst (λ (h : History). Holds (bytes_after M o cs).shelf (needed h)) (sym (ap tells (events-same o cs ws)))
            (subst (λ (l : Lent). Holds l.shelf (needed (past K o cs))) (sym (bytes_same o cs ws)) (t.shelf o (a o) cs ws));
        table = λ o x cs ws.
            subst (λ (h : History). Holds (bytes_after M o cs).table h.live) (sym (ap tells (events-same o cs ws)))
            (subst (λ (l : Lent). Holds l.table (past K o cs).live) (sym (bytes_same o cs ws)) (t.table o (a o) cs ws));
      }

-- ---- what C hears is document 01's reply

module _ (H : Host) (e : Exports H) where
  heard_is : (l : Lent) (c : Call) → LentBytes l → Well c → heard_by H l c ≡ called l c
  unfolding heard_by
  heard_is l c a w = go (exported c) refl
    where
      told : exported c ≡ true → hears c (H l c) ≡ called l c
      told x =
          let r = e l c x a w in
          let answer : unpacked c (H l c).number ≡ (called l c).answer =
          ap (λ (y : Returned). unpacked c y.number) r ∙ unpacks c x (called l c).answer (demand_1.fits l c a w) in
          let after : (H l c).after ≡ (called l c).after = ap (λ (y : Returned). y.after) r in
          let out : (H l c).out ≡ (called l c).out = ap (λ (y : Returned). y.out) r in
          λ i. reply (answer i) (after i) (out i)

      go : (b : Bool) → exported c ≡ b → cond b (hears c (H l c)) (called l c) ≡ called l c
      go true x = told x
      go false x = refl

  pub host_lives : HostLives H
  host_lives =
      record {
        bytes = bytes_same (heard_by H) called heard_is demand_1;
        answers = events-same (heard_by H) called heard_is demand_1;
        one = one_too (heard_by H) called heard_is demand_1;
        two = two_too (heard_by H) called heard_is demand_1 demand_2;
        three = three_too (heard_by H) called heard_is demand_1 demand_2.opens demand_3;
      }
