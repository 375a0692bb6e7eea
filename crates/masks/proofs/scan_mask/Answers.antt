use native.Mathlib.Nat.{one-mul, mod-eq_of_lt}
use lib.Pow.{pow-lt}
use Prim.Native.Nat.{◌^◌}
use Rattle.rules.specs.Masks.{scan_mask}
use Rattle.masks.proofs.scan_mask.Goals as goal

pub returns : goal.returns
unfolding scan_mask
returns c =
    rw (c.from.ensures.0, one-mul (2 ^ c.args.p)) (mod-eq_of_lt (pow-lt (rw c.from.ensures.0 at c.from.ensures.1)))
