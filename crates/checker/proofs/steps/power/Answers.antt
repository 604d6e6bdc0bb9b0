-- 2^E by a shift.
use Rattle.checker.proofs.Distance.{step_is}
use Rattle.checker.proofs.steps.power.Goals as goal

pub returns : goal.returns
returns c = step_is _ c.requires
