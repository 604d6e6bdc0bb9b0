-- The least E that fits: at each E passed the spread fills the N bits.
use Rattle.scaling.proofs.Choosing.{NoneBefore}
use Rattle.scaling.proofs.least_step.Given as goal

abbrev pub invariant-loop-e : goal.invariant-loop-e
invariant-loop-e l = NoneBefore l.bits l.r l.e
