use mathlib.Core.Bool.{not}
use mathlib.Core.Path.{ap}
use native.Mathlib.Omega.{arith}
use Rattle.scaling.proofs.Choosing.{least-end, least-found}
use Rattle.scaling.proofs.least_step.Goals as goal

pub returns-then-not-fills : goal.returns-then-not-fills
returns-then-not-fills c =
    least-found _ _ _ c.loop-e.invariant _ _ c.step.ensures c.fills.ensures
    c.loop-e-test.true (ap not c.if-not-fills.true)

pub returns : goal.returns
returns c = least-end _ _ _ (λ k l. c.loop-e.invariant k (omega arith)) (omega arith)
