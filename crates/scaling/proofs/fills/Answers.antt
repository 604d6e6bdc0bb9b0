-- A number against 2^N: for N of 64 or more none reaches it.
use Rattle.scaling.proofs.Stepping.{too_few}
use native.Mathlib.Omega.{arith}
use Prim.Native.Nat.{◌≤◌}
use Rattle.scaling.proofs.fills.Goals as goal

pub returns : goal.returns
returns c = let h : 64 ≤ c.args.bits = omega arith in too_few _ _ h c.ranges.x.fits
