-- X by a shift to halves of a step, by the laws of Stepping.
use Rattle.scaling.proofs.Stepping.{none_yet, far-on, by-halves}
use native.Mathlib.Omega.{arith}
use Rattle.scaling.proofs.step.Goals as goal

pub returns-then-e-eq0 : goal.returns-then-e-eq0
returns-then-e-eq0 c = none_yet _ _ c.if-e-eq0.true

pub returns-then-e-gt64 : goal.returns-then-e-gt64
returns-then-e-gt64 c = far-on _ _ (omega arith) c.ranges.r.fits

pub returns : goal.returns
returns c = by-halves _ _ c.if-e-eq0.false
