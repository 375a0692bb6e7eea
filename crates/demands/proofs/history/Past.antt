-- What holds of everything that the calls and their answers tell of a store that answers as demand 2 has it.
use mathlib.Core.Path.{◌≡◌, refl, sym, ap, ◌∙◌, subst}
use mathlib.Core.Bool.{Bool, true, false, not, cond}
use mathlib.Core.List.Memᴰ
use mathlib.Core.List.{List, [], ◌∷◌, ◌++◌, map, append_assoc}
use mathlib.Core.Logic.{◌⊎◌, inl, inr}
use Prim.Native.Nat.{ℕ, suc, ◌≤◌, ◌<◌}
use native.Mathlib.Omega.{arith}
use lib.Dec.{eqb}
use borrow.Author.Tests.{eqb-true, eqb-false, not-true}
use Rattle.demands.specs.History.{Version, version, Scan, scan, History, reads, awaits, numbered, ticketed, is_live, remain, leaving, inserted, modified, deleted, begins, onward, goes_on, goes, finishes, untold}
use Rattle.demands.specs.Lists.{Permutation}
use Rattle.demands.proofs.lists.Apart.{Apart, apart_eq, apart_perm, apart-those}
use Rattle.demands.proofs.history.Awaits.{awaits-began, awaits-not, Handing, handing_first, handing_passed, handing_handed}
use Rattle.demands.proofs.lists.Lists.{In, in_left, any_none, those_in, same, back, perm_in, perm_before, fail_pass, map_in}

abbrev pub number_of : Version → ℕ
number_of v = v.number

abbrev pub change_of : Version → ℕ
change_of v = v.change

abbrev pub ticket_of : Scan → ℕ
ticket_of s = s.ticket

-- every version since the opening
abbrev pub ever : History → List Version
ever h = h.live ++ h.left

pub record ScanPast (h : History) (s : Scan) : Type 0 where
  pub low : 1 ≤ s.ticket
  pub high : s.ticket ≤ h.given
  pub from : (v : Version) → In v s.began → In v (ever h)
  pub numbers : Apart number_of s.began
  pub handing : Handing s

pub record Past (h : History) : Type 0 where
  pub numbers : Apart number_of h.live
  pub names : Apart change_of (ever h)
  pub old : (v : Version) → In v (ever h) → v.change < h.changes
  pub small : (v : Version) → In v (ever h) → v.number < 4294967296
  pub tickets : Apart ticket_of h.running
  pub scans : (s : Scan) → In s h.running → ScanPast h s

module _ (h : History) (q : Past h) where
  -- a scan awaits only what it began with
  pub awaited-began : (s : Scan) → In s h.running → (v : Version) → In v (ever h) → awaits s v ≡ true → In v s.began
  awaited-began s i v j e =
      let w = awaits-began s v e in
      subst (λ (u : Version). In u s.began) (apart_eq change_of (ever h) q.names w.0 v ((q.scans s i).from w.0 w.1) j w.2) w.1

  -- no scan awaits a version that is yet to be made
  pub unmade : (s : Scan) → In s h.running → (v : Version) → h.changes ≤ v.change → awaits s v ≡ false
  unmade s i v e = awaits-not s v (λ u j z. let o : u.change < h.changes = q.old u ((q.scans s i).from u j) in omega arith)

  -- ---- a change

  scan_kept : (g : History) → g.given ≡ h.given → ((v : Version) → In v (ever h) → In v (ever g)) → (s : Scan) → ScanPast h s → ScanPast g s
  scan_kept g e f s w = record { low = w.low; high = rw e w.high; from = λ v i. f v (w.from v i); numbers = w.numbers; handing = w.handing }

  -- one version more
  pub made : (g : History) (v : Version) → g.changes ≡ suc h.changes → g.given ≡ h.given → g.running ≡ h.running → Apart number_of g.live → Permutation (ever g) (v ∷ ever h)
      → v.change ≡ h.changes → v.number < 4294967296 → Past g
  made g v ec eg er an p ev sv =
      record {
        numbers = an;
        names = apart_perm change_of (v ∷ ever h) (ever g) (back p) ((λ u i z. let o : u.change < h.changes = q.old u i in omega arith), q.names);
        old = λ u i. old' u (Memᴰ.cases_cons (perm_in u (ever g) (v ∷ ever h) p i));
        small = λ u i. small' u (Memᴰ.cases_cons (perm_in u (ever g) (v ∷ ever h) p i));
        tickets = rw er q.tickets;
        scans = λ s i. scan_kept g eg (λ u j. perm_in u (v ∷ ever h) (ever g) (back p) (Memᴰ.tail j)) s (q.scans s (subst (λ (l : List Scan). In s l) er i));
      }
    where
      old' : (u : Version) → (u ≡ v) ⊎ In u (ever h) → u.change < g.changes
      old' u (inl z) = let y : u.change ≡ v.change = ap change_of z in omega arith
      old' u (inr i) = let o : u.change < h.changes = q.old u i in omega arith

      small' : (u : Version) → (u ≡ v) ⊎ In u (ever h) → u.number < 4294967296
      small' u (inl z) = let y : u.number ≡ v.number = ap number_of z in omega arith
      small' u (inr i) = q.small u i

  pub inserted-past : (k : ℕ) (b : List ℕ) → k < 4294967296 → is_live h k ≡ false → Past (inserted h k b)
  inserted-past k b small absent =
      made (inserted h k b) (version k b h.changes) refl refl refl ((λ u i z. eqb-false u.number k (any_none (numbered k) h.live absent u i) z), q.numbers) (same (version k b h.changes ∷ ever h)) refl small

  -- a version that leaves is still one of all
  pub left_one : (k : ℕ) → Permutation (remain k h.live ++ (leaving k h.live ++ h.left)) (ever h)
  left_one k = subst (λ (l : List Version). Permutation l (ever h)) (append_assoc (remain k h.live) (leaving k h.live) h.left) (perm_before (remain k h.live ++ leaving k h.live) h.live h.left (fail_pass (numbered k) h.live))

  remain-not : (k : ℕ) (u : Version) → In u (remain k h.live) → u.number ≡ k → ⊥
  remain-not k u i z = eqb-false u.number k (not-true (eqb u.number k) (those_in (λ v. not (numbered k v)) h.live u i).1) z

  pub modified-past : (k : ℕ) (b : List ℕ) → k < 4294967296 → Past (modified h k b)
  modified-past k b small =
      made (modified h k b) (version k b h.changes) refl refl refl ((λ u i z. remain-not k u i z), apart-those number_of (λ v. not (numbered k v)) h.live q.numbers) (Permutation.next (left_one k)) refl small

  pub deleted-past : (k : ℕ) → Past (deleted h k)
  deleted-past k =
      let p = left_one k in
      record {
        numbers = apart-those number_of (λ v. not (numbered k v)) h.live q.numbers;
        names = apart_perm change_of (ever h) (ever (deleted h k)) (back p) q.names;
        old = λ u i. let o : u.change < h.changes = q.old u (perm_in u (ever (deleted h k)) (ever h) p i) in omega arith;
        small = λ u i. q.small u (perm_in u (ever (deleted h k)) (ever h) p i);
        tickets = q.tickets;
        scans = λ s i. scan_kept (deleted h k) refl (λ u j. perm_in u (ever h) (ever (deleted h k)) (back p) j) s (q.scans s i);
      }

  -- ---- a scan begins

  pub begins-past : Past (begins h (suc h.given))
  begins-past =
      record {
        numbers = q.numbers;
        names = q.names;
        old = q.old;
        small = q.small;
        tickets = ((λ s i z. let o : s.ticket ≤ h.given = (q.scans s i).high in omega arith), q.tickets);
        scans = λ s i. go s (Memᴰ.cases_cons i);
      }
    where
      go : (s : Scan) → (s ≡ scan (suc h.given) h.live [] 0) ⊎ In s h.running → ScanPast (begins h (suc h.given)) s
      go s (inl e) = subst (ScanPast (begins h (suc h.given))) (sym e) (record { low = omega arith; high = omega arith; from = λ v i. in_left v h.live h.left i; numbers = q.numbers; handing = handing_first (suc h.given) 0 h.live })
      go s (inr i) = let w = q.scans s i in record { low = w.low; high = omega (arith, w.high); from = w.from; numbers = w.numbers; handing = w.handing }

  -- ---- a scan goes on, or finishes

  ticket_kept : (t n : ℕ) (o : List (List ℕ)) (s : Scan) → (goes_on t n o s).ticket ≡ s.ticket
  ticket_kept t n o s = go (ticketed t s)
    where
      go : (b : Bool) → (cond b (onward n o s) s).ticket ≡ s.ticket
      go true = refl
      go false = refl

  apart-goes : (t n : ℕ) (o : List (List ℕ)) (l : List Scan) → Apart ticket_of l → Apart ticket_of (map (goes_on t n o) l)
  apart-goes t n o [] a = tt
  apart-goes t n o (s ∷ l) a =
      ((λ u i z. let w = map_in (goes_on t n o) l u i in a.0 w.0 w.1 (sym (ap ticket_of w.2 ∙ ticket_kept t n o w.0) ∙ z ∙ ticket_kept t n o s)), apart-goes t n o l a.1)

  -- the scan of ticket t goes on as its hand-outs let it
  pub goes-past : (t n : ℕ) (o : List (List ℕ)) → ((s : Scan) → In s h.running → s.ticket ≡ t → Handing (onward n o s)) → Past (goes h t n o)
  goes-past t n o f =
      record {
        numbers = q.numbers;
        names = q.names;
        old = q.old;
        small = q.small;
        tickets = apart-goes t n o h.running q.tickets;
        scans = λ s i. let w = map_in (goes_on t n o) h.running s i in subst (ScanPast (goes h t n o)) (sym w.2) (go w.0 w.1 (ticketed t w.0) refl);
      }
    where
      go : (s : Scan) → In s h.running → (b : Bool) → ticketed t s ≡ b → ScanPast (goes h t n o) (goes_on t n o s)
      go s i true e = let w = q.scans s i in rw e (record { low = w.low; high = w.high; from = w.from; numbers = w.numbers; handing = f s i (eqb-true _ _ e) })
      go s i false e = let w = q.scans s i in rw e (record { low = w.low; high = w.high; from = w.from; numbers = w.numbers; handing = w.handing })

  pub passed_past : (t n : ℕ) → Past (goes h t n [])
  passed_past t n = goes-past t n [] (λ s i e. handing_passed n s (q.scans s i).handing)

  pub handed-past : (t n : ℕ) (s : Scan) (v : Version) → In s h.running → s.ticket ≡ t → In v s.began → awaits s v ≡ true → Past (goes h t n (reads v ∷ []))
  handed-past t n s v i e j a =
      goes-past t n (reads v ∷ [])
      (λ u k z. subst (λ (x : Scan). Handing (onward n (reads v ∷ []) x)) (apart_eq ticket_of h.running q.tickets s u i k (e ∙ sym z))
      (handing_handed n s v (q.scans s i).numbers (λ x m. q.small x ((q.scans s i).from x m)) j a (q.scans s i).handing))

  pub finishes-past : (t : ℕ) → Past (finishes h t)
  finishes-past t =
      record {
        numbers = q.numbers;
        names = q.names;
        old = q.old;
        small = q.small;
        tickets = apart-those ticket_of (λ s. not (ticketed t s)) h.running q.tickets;
        scans = λ s i. let w = q.scans s (those_in (λ s. not (ticketed t s)) h.running s i).0 in record { low = w.low; high = w.high; from = w.from; numbers = w.numbers; handing = w.handing };
      }

pub opened-past : Past untold
opened-past =
    record {
      numbers = tt;
      names = tt;
      old = λ v i. absurd (Memᴰ.not-nil i);
      small = λ v i. absurd (Memᴰ.not-nil i);
      tickets = tt;
      scans = λ s i. absurd (Memᴰ.not-nil i);
    }
