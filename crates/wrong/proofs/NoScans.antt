-- "Demand 3 alone would let a store through that never starts a scan; demand 2 shuts that out."
use mathlib.Core.Path.{◌≡◌, refl, sym, ap, ◌∙◌, subst}
use mathlib.Core.Bool.{Bool, true, false}
use mathlib.Core.Option.{Option, some}
use mathlib.Core.List.{List, [], ◌∷◌, ◌++◌}
use Prim.Native.Nat.{ℕ}
use native.Mathlib.Omega.{arith}
use Rattle.demands.specs.DemandThree.{Holds, Demand3}
use Rattle.demands.specs.DemandTwo.{Answers, Demand2}
use Rattle.demands.specs.History.{Version, History, needed, heard, tells}
use Rattle.idle.specs.Idle.{NeverStarts}
use Rattle.rules.specs.Passed.{All}
use Rattle.demands.specs.Lives.{Opening, table_slots, shelf_entries, Accepted, bytes_after, events, past}
use Rattle.demands.specs.Machine.{Within}
use Rattle.wrong.specs.NoScans.{none_free, scanless, no_scans}
use Rattle.wrong.specs.Ways.{replied_by, called_by}
use Rattle.demands.specs.Reasons.{reason}
use Rattle.rules.specs.Answers.{Answer}
use Rattle.rules.specs.Memory.{Lent, read}
use Rattle.rules.specs.Refusals.{Call, Refusals, Reply, first_of, refusals, changes_to, refused_as, replied, called}
use Rattle.idle.proofs.Caught.{never_starts_caught}
use Rattle.wrong.proofs.Ours.{same_effect, same-reply}
use Rattle.demands.proofs.page.DemandThree.{demand_3}
use Rattle.demands.proofs.page.DemandTwo.{demand_2}
use Rattle.demands.proofs.machines.Small.{tiny}

-- ---- a begin is refused

refused-last : (ts : Refusals) → (k : ℕ) × (first_of (ts ++ ((true, 9) ∷ [])) ≡ some k)
unfolding first_of
refused-last [] = (9, refl)
refused-last (t ∷ ts) = go (refused-last ts) t.0
  where
    go : (k : ℕ) × (first_of (ts ++ ((true, 9) ∷ [])) ≡ some k) → (b : Bool) → (k : ℕ) × (elim b as (λ y. Option ℕ) [ true ↦ some t.1 | false ↦ first_of (ts ++ ((true, 9) ∷ [])) ] ≡ some k)
    go x true = (t.1, refl)
    go x false = x

refuses : (l : Lent) → (k : ℕ) × (no_scans l Call.begin ≡ replied (some k) l Call.begin)
unfolding called_by replied_by replied none_free
refuses l = let x = refused-last (refusals l Call.begin) in (x.0, ap (λ (o : Option ℕ). replied_by scanless o l Call.begin) x.1)

no_ticket : (l : Lent) (t : ℕ) → (no_scans l Call.begin).answer ≡ Answer.begun t → ⊥
unfolding replied refused_as
no_ticket l t e =
    let w = refuses l in
    let f : Answer.refused w.0 ≡ Answer.begun t = sym (ap (λ (r : Reply). r.answer) w.1) ∙ e in
    let z : ◌≡◌ {A = ℕ} 0 1 = cc in omega arith

pub no_scans_never_starts : (o : Opening) → NeverStarts no_scans
no_scans_never_starts o = record { opening = o; never = λ cs ws t e. no_ticket (bytes_after no_scans o cs) t e }

pub no_scans_fails_2 : Demand2 no_scans → ⊥
no_scans_fails_2 = never_starts_caught no_scans (no_scans_never_starts tiny)

-- ---- so along any calls it is document 01's store along those that are no begin

unfoldable unbegun : List Call → List Call
unbegun [] = []
unbegun (Call.opening n ∷ cs) = Call.opening n ∷ unbegun cs
unbegun (Call.change c ∷ cs) = Call.change c ∷ unbegun cs
unbegun (Call.begin ∷ cs) = unbegun cs
unbegun (Call.next t b o ∷ cs) = Call.next t b o ∷ unbegun cs
unbegun (Call.reading q ∷ cs) = Call.reading q ∷ unbegun cs

alike : (c : Call) (l : Lent) → none_free l c ≡ refusals l c → no_scans l c ≡ called l c
unfolding called_by called
alike c l e =
    ap (λ (ts : Refusals). replied_by scanless (first_of ts) l c) e ∙ same-reply scanless l c (same_effect none_free changes_to (read l) c (λ d z. refl)) (first_of (refusals l c))

module _ (o : Opening) where
  record Same (cs ds : List Call) : Type 0 where
    within : All Within ds
    bytes : bytes_after no_scans o cs ≡ bytes_after called o ds
    told : past no_scans o cs ≡ past called o ds

  -- a call that both answer alike
  more : (c : Call) → Within c → ((l : Lent) → no_scans l c ≡ called l c) → (cs ds : List Call) → Same cs ds → Same (c ∷ cs) (c ∷ ds)
  unfolding bytes_after events tells
  more c w f cs ds s =
      let r : no_scans (bytes_after no_scans o cs) c ≡ called (bytes_after called o ds) c = f (bytes_after no_scans o cs) ∙ ap (λ (l : Lent). called l c) s.bytes in
      record { within = (w, s.within); bytes = ap (λ (x : Reply). x.after) r; told = λ i. heard (s.told i) c (r i).answer (r i).out }

  -- a refused begin tells nothing
  no_more : (cs ds : List Call) → Same cs ds → Same (Call.begin ∷ cs) ds
  unfolding bytes_after events tells heard replied refused_as
  no_more cs ds s =
      let r = (refuses (bytes_after no_scans o cs)).1 in
      record { within = s.within; bytes = ap (λ (x : Reply). x.after) r ∙ s.bytes; told = ap (λ (x : Reply). heard (past no_scans o cs) Call.begin x.answer x.out) r ∙ s.told }

  same : (cs : List Call) → All Within cs → Same cs (unbegun cs)
  unfolding bytes_after events tells unbegun none_free
  same [] w = record { within = tt; bytes = ap (λ (r : Reply). r.after) (alike (Call.opening o.n) o.old refl); told = refl }
  same (Call.opening n ∷ cs) w = more (Call.opening n) w.0 (λ l. alike (Call.opening n) l refl) cs (unbegun cs) (same cs w.1)
  same (Call.change c ∷ cs) w = more (Call.change c) w.0 (λ l. alike (Call.change c) l refl) cs (unbegun cs) (same cs w.1)
  same (Call.begin ∷ cs) w = no_more cs (unbegun cs) (same cs w.1)
  same (Call.next t b x ∷ cs) w = more (Call.next t b x) w.0 (λ l. alike (Call.next t b x) l refl) cs (unbegun cs) (same cs w.1)
  same (Call.reading q ∷ cs) w = more (Call.reading q) w.0 (λ l. alike (Call.reading q) l refl) cs (unbegun cs) (same cs w.1)

unfree : (c : Call) → (c ≡ Call.begin → ⊥) → (l : Lent) → none_free l c ≡ refusals l c
unfolding none_free
unfree (Call.opening n) d l = refl
unfree (Call.change c) d l = refl
unfree Call.begin d l = absurd (d refl)
unfree (Call.next t b x) d l = refl
unfree (Call.reading q) d l = refl

-- ---- it opens, and it answers every other call as demand 2 has it

pub no_scans_opens : (o : Opening) → Accepted no_scans o
unfolding none_free
no_scans_opens o = ap (λ (r : Reply). r.answer) (alike (Call.opening o.n) o.old refl) ∙ demand_2.opens o

pub no_scans_answers : (o : Opening) (cs : List Call) → All Within cs → (c : Call) → Within c → (c ≡ Call.begin → ⊥)
    → Answers (table_slots o) (shelf_entries o) (past no_scans o cs) (reason o.n (table_slots o) (shelf_entries o) (past no_scans o cs) c) c (no_scans (bytes_after no_scans o cs) c).answer (no_scans (bytes_after no_scans o cs) c).out
no_scans_answers o cs ws c w other =
    subst (λ (h : History). Answers (table_slots o) (shelf_entries o) h (reason o.n (table_slots o) (shelf_entries o) h c) c (no_scans (bytes_after no_scans o cs) c).answer (no_scans (bytes_after no_scans o cs) c).out) (sym s.told)
    (subst (λ (r : Reply). Answers (table_slots o) (shelf_entries o) (past called o (unbegun cs)) (reason o.n (table_slots o) (shelf_entries o) (past called o (unbegun cs)) c) c r.answer r.out)
    (sym (alike c (bytes_after no_scans o cs) (unfree c other (bytes_after no_scans o cs)) ∙ ap (λ (l : Lent). called l c) s.bytes)) (demand_2.answers o (unbegun cs) s.within c w))
  where
    s : Same o cs (unbegun cs)
    s = same o cs ws

-- ---- and it meets demand 3

held : (buffer : Lent → List ℕ) (versions : History → List Version) (o : Opening) (cs : List Call) (s : Same o cs (unbegun cs))
    → Holds (buffer (bytes_after called o (unbegun cs))) (versions (past called o (unbegun cs))) → Holds (buffer (bytes_after no_scans o cs)) (versions (past no_scans o cs))
held buffer versions o cs s h =
    subst (λ (g : History). Holds (buffer (bytes_after no_scans o cs)) (versions g)) (sym s.told) (subst (λ (l : Lent). Holds (buffer l) (versions (past called o (unbegun cs)))) (sym s.bytes) h)

pub no_scans_meets_3 : Demand3 no_scans
no_scans_meets_3 =
    record {
      shelf = λ o a cs ws. let s = same o cs ws in held (λ l. l.shelf) needed o cs s (demand_3.shelf o (demand_2.opens o) (unbegun cs) s.within);
      table = λ o a cs ws. let s = same o cs ws in held (λ l. l.table) (λ h. h.live) o cs s (demand_3.table o (demand_2.opens o) (unbegun cs) s.within);
    }
