-- What the calls since the opening and their answers tell, and nothing else: no mask, no card, no slot, no place.
use Rattle.std.specs.Prelude.{Bool, true, false, not, ◌&&◌, cond, List, [], ◌∷◌, ◌++◌, map, ℕ, suc, ◌+◌, eqb}
use Rattle.std.proofs.Math.Option.{Option}
use Rattle.demands.specs.Lists.{any, those, first_that}
use Rattle.rules.specs.Answers.{Answer, Draw}
use Rattle.rules.specs.Bytes.{to_le}
use Rattle.rules.specs.Refusals.{Call, Change}

-- Every list of calls, events, versions, scans and hand-outs here has the newest first.

-- a call, its answer, and the hand-out buffer after it
pub record Event : Type 0 where
  pub call : Call
  pub answer : Answer
  pub out : List ℕ

-- a record between two changes, named by the accepted change that made it: the how manieth since the opening
pub record Version : Type 0 where
  pub number : ℕ
  pub body : List ℕ
  pub change : ℕ

abbrev pub version : ℕ → List ℕ → ℕ → Version
version k b c = record { number = k; body = b; change = c }

-- as it reads: "the 56 bytes of number and body"
abbrev pub reads : Version → List ℕ
reads v = to_le 4 v.number ++ v.body

-- a scan since its begin, newest hand-out first
pub record Scan : Type 0 where
  pub ticket : ℕ
  pub began : List Version
  pub handed : List (List ℕ)
  pub looks : ℕ

abbrev pub scan : ℕ → List Version → List (List ℕ) → ℕ → Scan
scan t b h l = record { ticket = t; began = b; handed = h; looks = l }

-- accepted changes so far; the versions in the table, and those that have left it; tickets given; the scans that run
pub record History : Type 0 where
  pub changes : ℕ
  pub live : List Version
  pub left : List Version
  pub given : ℕ
  pub running : List Scan

abbrev pub history : ℕ → List Version → List Version → ℕ → List Scan → History
history c l f g r = record { changes = c; live = l; left = f; given = g; running = r }

-- ---- what has been handed out, what is awaited, what is needed

abbrev pub alike : List ℕ → List ℕ → Bool
alike [] [] = true
alike [] (y ∷ ys) = false
alike (x ∷ xs) [] = false
alike (x ∷ xs) (y ∷ ys) = eqb x y && alike xs ys

-- A version is told apart by the change that made it, since two of one record may read alike; a hand-out shows its bytes and nothing
-- else, and tells enough: no two versions that a scan began with have one number.
abbrev pub began_with : Scan → Version → Bool
began_with s v = any (λ u. eqb u.change v.change) s.began

abbrev pub handed_out : Scan → Version → Bool
handed_out s v = any (alike (reads v)) s.handed

-- "began with and has not yet handed out"
unfoldable pub awaits : Scan → Version → Bool
awaits s v = began_with s v && not (handed_out s v)

-- "some running scan"
unfoldable pub awaited : History → Version → Bool
awaited h v = any (λ s. awaits s v) h.running

-- "each version that has left the table and that some running scan began with and has not yet handed out"
abbrev pub needed : History → List Version
needed h = those (awaited h) h.left

-- what a scan has yet to be handed
abbrev pub waiting : Scan → List Version
waiting s = those (awaits s) s.began

-- ---- who is who

abbrev pub numbered : ℕ → Version → Bool
numbered k v = eqb v.number k

abbrev pub ticketed : ℕ → Scan → Bool
ticketed t s = eqb s.ticket t

abbrev pub is_live : History → ℕ → Bool
is_live h k = any (numbered k) h.live

abbrev pub runs : History → ℕ → Bool
runs h t = any (ticketed t) h.running

abbrev pub scan_of : History → ℕ → Option Scan
scan_of h t = first_that (ticketed t) h.running

-- ---- what one more answer tells

-- the version of number k leaves the table
abbrev pub remain : ℕ → List Version → List Version
remain k l = those (λ v. not (numbered k v)) l

abbrev pub leaving : ℕ → List Version → List Version
leaving k l = those (numbered k) l

abbrev pub inserted : History → ℕ → List ℕ → History
inserted h k b = history (suc h.changes) (version k b h.changes ∷ h.live) h.left h.given h.running

abbrev pub modified : History → ℕ → List ℕ → History
modified h k b = history (suc h.changes) (version k b h.changes ∷ remain k h.live) (leaving k h.live ++ h.left) h.given h.running

abbrev pub deleted : History → ℕ → History
deleted h k = history (suc h.changes) (remain k h.live) (leaving k h.live ++ h.left) h.given h.running

-- a scan begins with what the table then holds
abbrev pub begins : History → ℕ → History
begins h t = history h.changes h.live h.left (suc h.given) (scan t h.live [] 0 ∷ h.running)

-- n looks, and what they brought
abbrev pub onward : ℕ → List (List ℕ) → Scan → Scan
onward n o s = scan s.ticket s.began (o ++ s.handed) (s.looks + n)

abbrev pub goes_on : ℕ → ℕ → List (List ℕ) → Scan → Scan
goes_on t n o s = cond (ticketed t s) (onward n o s) s

abbrev pub goes : History → ℕ → ℕ → List (List ℕ) → History
goes h t n o = history h.changes h.live h.left h.given (map (goes_on t n o) h.running)

abbrev pub finishes : History → ℕ → History
finishes h t = history h.changes h.live h.left h.given (those (λ s. not (ticketed t s)) h.running)

abbrev pub on_done : {A : Type 0} → Answer → A → A → A
on_done Answer.done x h = x
on_done (Answer.begun t) x h = h
on_done (Answer.drew d) x h = h
on_done (Answer.shown s) x h = h
on_done (Answer.refused j) x h = h

abbrev pub on_begun : Answer → History → History
on_begun Answer.done h = h
on_begun (Answer.begun t) h = begins h t
on_begun (Answer.drew d) h = h
on_begun (Answer.shown s) h = h
on_begun (Answer.refused j) h = h

abbrev pub on_next : Answer → History → ℕ → List ℕ → History
on_next Answer.done h t o = h
on_next (Answer.begun u) h t o = h
on_next (Answer.drew (Draw.in_hand l b)) h t o = goes h t l (o ∷ [])
on_next (Answer.drew (Draw.paused l)) h t o = goes h t l []
on_next (Answer.drew (Draw.finished l b n)) h t o = finishes h t
on_next (Answer.shown s) h t o = h
on_next (Answer.refused j) h t o = h

abbrev pub changed_by : History → Change → History
changed_by h (Change.insert k b) = inserted h k b
changed_by h (Change.modify k b) = modified h k b
changed_by h (Change.delete k) = deleted h k

unfoldable pub heard : History → Call → Answer → List ℕ → History
heard h (Call.opening n) a o = h
heard h (Call.change c) a o = on_done a (changed_by h c) h
heard h Call.begin a o = on_begun a h
heard h (Call.next t b u) a o = on_next a h t o
heard h (Call.reading q) a o = h

-- ---- the whole list, newest first

abbrev pub tells_from : History → List Event → History
tells_from start [] = start
tells_from start (e ∷ es) = heard (tells_from start es) e.call e.answer e.out

-- at the opening: an empty store of which nothing has been told
abbrev pub untold : History
untold = history 0 [] [] 0 []

unfoldable pub tells : List Event → History
tells es = tells_from untold es
