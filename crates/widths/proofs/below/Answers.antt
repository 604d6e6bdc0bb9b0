-- Every u32 has at most 32 bits.
use native.Mathlib.Omega.{arith}
use Rattle.widths.proofs.Fits.{below-every}
use Rattle.widths.proofs.below.Goals as goal

pub returns : goal.returns
returns c = let a = c.args in below-every a.v a.n (omega arith) (omega arith)
