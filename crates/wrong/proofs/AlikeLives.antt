-- Our store and the one that clears its bits at begin, along any calls: every answer tells the same, and the bytes read alike.
use mathlib.Core.Path.{◌≡◌, refl, sym, ap, ◌∙◌, subst}
use mathlib.Core.Bool.{Bool, not, ◌&&◌, and-false}
use mathlib.Core.Option.{Option, none, some}
use mathlib.Core.List.{List, [], ◌∷◌}
use Prim.Native.Nat.{ℕ, ◌*◌}
use lib.ListN.{replicate}
use Rattle.wrong.specs.ClearAtBegin.{clearing, clear_at_begin}
use Rattle.wrong.specs.Ways.{effect_by, replied_by, called_by}
use Rattle.demands.specs.DemandOne.{SameLengths}
use Rattle.demands.specs.DemandTwo.{Fulfils, Answers}
use Rattle.demands.specs.History.{History, heard, tells}
use Rattle.rules.specs.Passed.{All}
use Rattle.demands.specs.Lives.{Opening, table_slots, shelf_entries, Accepted, bytes_after, events, past}
use Rattle.demands.specs.Machine.{Within}
use Rattle.demands.specs.Placement.{lowest, Places, places_after}
use Rattle.demands.specs.Reasons.{reason}
use Rattle.rules.specs.Calls.{opened}
use Rattle.rules.specs.Masks.{fresh}
use Rattle.rules.specs.Memory.{Lent, free, Store, read, written}
use Rattle.rules.specs.Next.{Told}
use Rattle.rules.specs.Refusals.{Call, Reply, lengths_right, own_right, all_right, first_of, own_refusals, looks_at_desk, refusals, effect, written_all, replied, called}
use Rattle.rules.specs.Sound.{sound}
use Rattle.stores.proofs.FirstOf.{same_first, skip_first}
use Rattle.wrong.proofs.Alike.{other, SlotAlike, Twin, free-alike, other_sized, other_sound}
use Rattle.wrong.proofs.AlikeCalls.{Likewise, own_same, effect-alike}
use Rattle.stores.proofs.Codec.{read-written}
use Rattle.demands.proofs.page.DemandOne.{accepted, accepted_fine}
use Rattle.demands.proofs.page.DemandTwo.{demand_2}
use Rattle.demands.proofs.page.Lives.{Living, well, accepted_is, refused_is, opening-reads, refusals_are, call_lives, all_live}
use Rattle.stores.proofs.OnePosition.{Fine}
use Rattle.stores.proofs.Sizes.{SlotSized, Sized, replicate-all, free_sized}
use Rattle.stores.proofs.SoundDesk.{of_sound}
use Rattle.stores.proofs.Spelling.{length-slots, length-desk}

-- ---- the bytes of both

-- their stores are alike, and their lengths the same
pub record Twins (l k : Lent) : Type 0 where
  pub stores : Twin (read l) (read k)
  pub lengths : SameLengths l k

twins_written : (X Y : Store) → Fine X → Twin X Y → Twins (written X) (written Y)
unfolding written
twins_written X Y f w = subst (λ (Z : Store). Twins (written X) (written Z)) (sym w.is) twins
  where
    sized : Sized (other X w.table)
    sized = other_sized X f w.table w.alike

    twins : Twins (written X) (written (other X w.table))
    twins =
        record {
          stores = rw (read-written X f.sized, read-written (other X w.table) sized) (record { table = w.table; is = refl; alike = w.alike });
          lengths = record {
            desk = length-desk (other X w.table).desk sized.desk ∙ sym (length-desk X.desk f.sized.desk);
            table = length-slots w.table w.alike.sized ∙ ap (λ (n : ℕ). n * 64) w.alike.all ∙ sym (length-slots X.table f.sized.table);
            shelf = refl;
          };
        }

-- ---- one more call

clear_accepted : (l : Lent) (c : Call) → first_of (refusals l c) ≡ none → clear_at_begin l c ≡ written_all (effect_by clearing (read l) c)
unfolding called_by replied_by
clear_accepted l c e = rw e refl

clear_refused : (l : Lent) (c : Call) (k : ℕ) → first_of (refusals l c) ≡ some k → clear_at_begin l c ≡ replied (some k) l c
unfolding called_by replied_by replied
clear_refused l c k e = rw e refl

-- the answers of two that do likewise tell the same
likewise_heard : (h : History) (c : Call) (x y : Told) → Likewise c x y → heard h c y.answer y.out ≡ heard h c x.answer x.out
unfolding heard
likewise_heard h (Call.opening n) x y w = refl
likewise_heard h (Call.change c) x y w = λ i. heard h (Call.change c) (w.0 i) (w.1 i)
likewise_heard h Call.begin x y w = λ i. heard h Call.begin (w.0 i) (w.1 i)
likewise_heard h (Call.next t b o) x y w = λ i. heard h (Call.next t b o) (w.0 i) (w.1 i)
likewise_heard h (Call.reading q) x y w = refl

likewise_fulfils : (t r : ℕ) (h : History) (c : Call) (x y : Told) → Likewise c x y → Fulfils t r h c x.answer x.out → Fulfils t r h c y.answer y.out
unfolding Fulfils
likewise_fulfils t r h (Call.opening n) x y w f = w.0 ∙ f
likewise_fulfils t r h (Call.change c) x y w f = w.0 ∙ f
likewise_fulfils t r h Call.begin x y w f = w.0 ∙ f
likewise_fulfils t r h (Call.next k b o) x y w f = rw (w.0, w.1) f
likewise_fulfils t r h (Call.reading q) x y w f = w

module _ (n t r : ℕ) (l k : Lent) (h : History) (p : Places) (v : Living n t r l h p) (w : Twins l k) (c : Call) (in_life_lem : Within c) where
  same-refusals : first_of (refusals k c) ≡ first_of (refusals l c)
  unfolding refusals
  same-refusals =
      let z = w.stores in
      same_first (not (all_right k c)) (not (all_right l c)) 1 _ _ (λ i. not (own_right c && lengths_right (w.lengths.desk i) (w.lengths.table i) (w.lengths.shelf i)))
      (λ _. skip_first (looks_at_desk c && not (sound (read k))) 2 (own_refusals (read k) c) (ap (λ (b : Bool). looks_at_desk c && not b) (ap sound z.is ∙ of_sound (other (read l) z.table) (other_sound (read l) v.keeps.fine z.table z.alike)) ∙ and-false (looks_at_desk c))
      ∙ ap (λ (Z : Store). first_of (own_refusals Z c)) z.is ∙ own_same (read l) v.keeps.fine z.table z.alike c
      ∙ sym (skip_first (looks_at_desk c && not (sound (read l))) 2 (own_refusals (read l) c) (ap (λ (b : Bool). looks_at_desk c && not b) (of_sound (read l) v.keeps.fine.sound) ∙ and-false (looks_at_desk c))))

  -- what our reply and its say and leave
  pub record Both (x y : Reply) : Type 0 where
    pub twins : Twins x.after y.after
    pub answers : Answers t r h (reason n t r h c) c y.answer y.out
    pub told : heard h c y.answer y.out ≡ heard h c x.answer x.out

  refused-both : (j : ℕ) → reason n t r h c ≡ some j → Both (replied (some j) l c) (replied (some j) k c)
  unfolding replied
  refused-both j e = record { twins = w; answers = rw e refl; told = refl }

  accepted_both : first_of (refusals l c) ≡ none → Answers t r h none c (effect (read l) c).answer (effect (read l) c).out → Both (written_all (effect (read l) c)) (written_all (effect_by clearing (read k) c))
  accepted_both e g =
      let a = accepted l c e in
      let z = w.stores in
      let x = effect-alike v.keeps z.table z.alike c in_life_lem a.own a.others in
      let f : Fine (effect (read l) c).after = accepted_fine l c v.bytes (well c in_life_lem) a in
      subst (λ (Z : Store). Both (written_all (effect (read l) c)) (written_all (effect_by clearing Z c))) (sym z.is)
      (record {
        twins = twins_written (effect (read l) c).after (effect_by clearing (other (read l) z.table) c).after f x.after;
        answers = subst (λ (o : Option ℕ). Answers t r h o c (effect_by clearing (other (read l) z.table) c).answer (effect_by clearing (other (read l) z.table) c).out) (sym e ∙ refusals_are v c in_life_lem)
            (likewise_fulfils t r h c (effect (read l) c) (effect_by clearing (other (read l) z.table) c) x.says g);
        told = likewise_heard h c (effect (read l) c) (effect_by clearing (other (read l) z.table) c) x.says;
      })

  both : Both (called l c) (clear_at_begin k c)
  both = go (first_of (refusals l c)) refl
    where
      go : (o : Option ℕ) → first_of (refusals l c) ≡ o → Both (called l c) (clear_at_begin k c)
      go none e =
          rw (accepted_is l c e, clear_accepted k c (same-refusals ∙ e))
          (accepted_both e (subst (λ (y : Reply). Answers t r h none c y.answer y.out) (accepted_is l c e) (subst (λ (o : Option ℕ). Answers t r h o c (called l c).answer (called l c).out) (sym (refusals_are v c in_life_lem) ∙ e) (call_lives v c in_life_lem).answers)))
      go (some j) e = rw (refused_is l c j e, clear_refused k c j (same-refusals ∙ e)) (refused-both j (sym (refusals_are v c in_life_lem) ∙ e))

-- ---- any calls

opened_twin : (n t r : ℕ) → Twin (opened n t r) (opened n t r)
unfolding opened
opened_twin n t r =
    record {
      table = replicate t free;
      is = refl;
      alike = record { all = refl; slots = replicate-all (λ s. SlotAlike fresh s s) free t free (free-alike fresh) (free-alike fresh); sized = replicate-all SlotSized free t free free_sized free_sized };
    }

module _ (o : Opening) where
  -- the opening is document 01's
  opening_is_ours : clear_at_begin o.old (Call.opening o.n) ≡ called o.old (Call.opening o.n)
  unfolding called_by replied_by called replied effect_by
  opening_is_ours = go (first_of (refusals o.old (Call.opening o.n)))
    where
      go : (x : Option ℕ) → replied_by clearing x o.old (Call.opening o.n) ≡ replied x o.old (Call.opening o.n)
      go none = refl
      go (some k) = refl

  pub opens : Accepted clear_at_begin o
  opens = ap (λ (r : Reply). r.answer) opening_is_ours ∙ demand_2.opens o

  pub opening-same : bytes_after clear_at_begin o [] ≡ bytes_after called o []
  unfolding bytes_after
  opening-same = ap (λ (r : Reply). r.after) opening_is_ours

  -- after these calls
  pub record Along (cs : List Call) : Type 0 where
    pub twins : Twins (bytes_after called o cs) (bytes_after clear_at_begin o cs)
    pub told : past clear_at_begin o cs ≡ past called o cs

  module _ (cs : List Call) (ws : All Within cs) (z : Along cs) (c : Call) (w : Within c) where
    pub next_both : Both o.n (table_slots o) (shelf_entries o) (bytes_after called o cs) (bytes_after clear_at_begin o cs) (past called o cs) (places_after called lowest o cs) (all_live o cs ws) z.twins c w (called (bytes_after called o cs) c) (clear_at_begin (bytes_after clear_at_begin o cs) c)
    next_both = both o.n (table_slots o) (shelf_entries o) (bytes_after called o cs) (bytes_after clear_at_begin o cs) (past called o cs) (places_after called lowest o cs) (all_live o cs ws) z.twins c w

  pub along : (cs : List Call) → All Within cs → Along cs
  unfolding bytes_after events tells
  along [] ws =
      record {
        twins = subst (Twins (bytes_after called o [])) (sym opening-same)
            (record { stores = rw (opening-reads o) (opened_twin o.n (table_slots o) (shelf_entries o)); lengths = record { desk = refl; table = refl; shelf = refl } });
        told = refl;
      }
  along (c ∷ cs) ws = go (along cs ws.1)
    where
      go : Along cs → Along (c ∷ cs)
      go z =
          let x = next_both cs ws.1 z c ws.0 in
          record { twins = x.twins; told = ap (λ (h : History). heard h c (clear_at_begin (bytes_after clear_at_begin o cs) c).answer (clear_at_begin (bytes_after clear_at_begin o cs) c).out) z.told ∙ x.told }
