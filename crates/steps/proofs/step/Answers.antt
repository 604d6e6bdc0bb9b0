-- X by a shift to halves of a step, as for more bits.
use Rattle.scaling.proofs.Stepping.{none_yet, by-halves}
use Rattle.steps.proofs.Near.{far-on}
use native.Mathlib.Omega.{arith}
use Rattle.steps.proofs.step.Goals as goal

pub returns-then-e-eq0 : goal.returns-then-e-eq0
returns-then-e-eq0 c = none_yet _ _ c.if-e-eq0.true

pub returns-then-e-gt32 : goal.returns-then-e-gt32
returns-then-e-gt32 c = far-on _ _ (omega arith) c.ranges.a.fits

pub returns : goal.returns
returns c = by-halves _ _ c.if-e-eq0.false
