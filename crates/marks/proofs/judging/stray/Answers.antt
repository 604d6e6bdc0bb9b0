use native.Mathlib.Omega.{arith}
use Rattle.marks.proofs.Points.{stray-none, stray-more, stray_unmarked, stray-done}
use Rattle.marks.proofs.judging.stray.Goals as goal

pub loop-i-init : goal.loop-i-init
loop-i-init c = stray-none _ _

pub loop-i-preserved : goal.loop-i-preserved
loop-i-preserved c = let l = c.loop-i in stray-more _ _ _ l.i l.invariant

pub loop-i-2-preserved : goal.loop-i-2-preserved
loop-i-2-preserved c = let l = c.loop-i-2 in stray_unmarked _ _ _ l.i l.invariant (omega arith)

pub returns : goal.returns
returns c = let l = c.loop-i-2 in stray-done _ _ _ l.i l.invariant _ (omega arith)
