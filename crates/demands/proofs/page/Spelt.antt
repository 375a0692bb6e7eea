-- What the calls of document 01 leave in every byte that is no mask.
use mathlib.Core.Path.{◌≡◌, refl, sym, ap, ◌∙◌}
use mathlib.Core.Bool.{Bool, true, false, ◌&&◌, false≢true}
use mathlib.Core.Option.{Option, none, some}
use mathlib.Core.List.{List, [], ◌∷◌}
use Prim.Native.Nat.{ℕ, ◌<◌}
use lib.Dec.{eqb}
use lib.ListN.{length, get_or, replicate}
use borrow.Author.Tests.{eqb-true}
use Rattle.demands.specs.History.{Scan, History}
use Rattle.demands.specs.Placement.{lowest, Places, sitting}
use Rattle.demands.specs.Spelt.{card_with, Spells, Spelt}
use Rattle.rules.specs.Calls.{card_of}
use Rattle.rules.specs.Memory.{Lent, read}
use Rattle.rules.specs.Refusals.{called}
use Rattle.rules.specs.Sound.{all_zero}
use Rattle.demands.proofs.page.DemandThree.{slot-reads, entry-reads}
use Rattle.demands.proofs.invariant.Invariant.{seat, resting}
use Rattle.demands.proofs.page.Lives.{Living, all_live}
use Rattle.demands.proofs.invariant.Positions.{sitting_is}

all-zero : (l : List ℕ) → all_zero l ≡ true → l ≡ replicate (length l) 0
unfolding all_zero
all-zero [] e = refl
all-zero (x ∷ l) e = go (eqb x 0) refl (all-zero l)
  where
    go : (b : Bool) → eqb x 0 ≡ b → (all_zero l ≡ true → l ≡ replicate (length l) 0) → x ∷ l ≡ replicate (length (x ∷ l)) 0
    go true q ih = λ i. eqb-true x 0 q i ∷ ih (sym (ap (λ (b : Bool). b && all_zero l) q) ∙ e) i
    go false q ih = absurd (false≢true (sym (ap (λ (b : Bool). b && all_zero l) q) ∙ e))

module _ {n t r : ℕ} {l : Lent} {h : History} {p : Places} (v : Living n t r l h p) where
  -- a card is that of the scan at its position
  card_is : (i : ℕ) → i < 64 → card_of (read l) i ≡ card_with (sitting h p i)
  card_is i hi = go (get_or v.seats i none) refl ∙ ap card_with (sym (sitting_is v.keeps p.positions v.sits i))
    where
      go : (o : Option Scan) → get_or v.seats i none ≡ o → card_of (read l) i ≡ card_with (get_or v.seats i none)
      go none e = (resting v.keeps i hi e).none ∙ ap card_with (sym e)
      go (some s) e =
          let c = seat v.keeps i s e in
          (λ j. record { ticket = record { 0 = c.ticket j }; place = c.place j; handed = c.handed j; rest = c.rest j }) ∙ ap card_with (sym e)

  pub spells : Spells n t r h p (read l)
  spells =
      record {
        n = v.keeps.is_n;
        t = v.keeps.fine.sound.is_t ∙ v.keeps.is_t;
        r = v.keeps.fine.sound.is_r ∙ v.keeps.is_r;
        last = v.keeps.last;
        zeros = all-zero (read l).desk.zeros v.keeps.fine.sound.zeros ∙ ap (λ (k : ℕ). replicate k 0) v.keeps.fine.sized.desk.zeros;
        cards = card_is;
        table = slot-reads v.keeps;
        shelf = entry-reads v.keeps;
      }

pub spelt : Spelt called lowest
unfolding Spelt
spelt o a cs ws = spells (all_live o cs ws)
