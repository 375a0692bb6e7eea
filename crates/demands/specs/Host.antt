-- The calls of a C program are a life: what it lends, and what it is returned, call after call, is the store of document 01.
use Rattle.std.specs.Prelude.{◌≡◌, true, cond, List}
use Rattle.demands.specs.DemandOne.{Demand1}
use Rattle.demands.specs.DemandThree.{Demand3}
use Rattle.demands.specs.DemandTwo.{Demand2}
use Rattle.rules.specs.Passed.{All, Well, LentBytes}
use Rattle.demands.specs.Lives.{Opening, bytes_after, events}
use Rattle.demands.specs.Machine.{Machine, Within, exported}
use Rattle.demands.specs.Packing.{unpacked}
use Rattle.rules.specs.Memory.{Lent}
use Rattle.rules.specs.Refusals.{Call, Reply, reply, called, Returned, packed_reply}

-- the exported functions as C calls them: bytes and a call in, one number back, the bytes after it and the hand-out buffer after it
abbrev pub Host : Type 0
Host = Lent → Call → Returned

-- what the contract of every exported function says of it
abbrev pub Exports : Host → Type 0
Exports H = (l : Lent) (c : Call) → exported c ≡ true → LentBytes l → Well c → H l c ≡ packed_reply (called l c)

-- what C hears: the answer that the number tells
abbrev pub hears : Call → Returned → Reply
hears c r = reply (unpacked c r.number) r.after r.out

-- the machine that a C program has before it; peek, which it cannot call, is the Rattle callers'
unfoldable pub heard_by : Host → Machine
heard_by H l c = cond (exported c) (hears c (H l c)) (called l c)

-- one opening and then any calls: the bytes that C lends on and the answers that it hears are those of a life, and the demands hold of
-- them
pub record HostLives (H : Host) : Type 0 where
  pub bytes : (o : Opening) (cs : List Call) → All Within cs → bytes_after (heard_by H) o cs ≡ bytes_after called o cs
  pub answers : (o : Opening) (cs : List Call) → All Within cs → events (heard_by H) o cs ≡ events called o cs
  pub one : Demand1 (heard_by H)
  pub two : Demand2 (heard_by H)
  pub three : Demand3 (heard_by H)
