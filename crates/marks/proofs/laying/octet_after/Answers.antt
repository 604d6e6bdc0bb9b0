-- The marks left over, and nothing after them.
use Rattle.marks.proofs.Bitmaps.{octet-after}
use native.Mathlib.Omega.{arith}
use Prim.Native.Nat.{◌*◌}
use Rattle.marks.proofs.laying.octet_after.Goals as goal

pub returns : goal.returns
returns c = let a = c.args in octet-after a.marks.now a.m (a.g * 8) (omega arith)
