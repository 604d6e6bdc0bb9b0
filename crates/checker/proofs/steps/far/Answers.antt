-- Out by more than half a step: all sums fit, and the law out-by of Distance.
use Rattle.checker.proofs.Distance.{product, back, out-by}
use mathlib.Core.Path.{◌∙◌}
use native.Mathlib.Omega.{arith}
use Rattle.checker.proofs.steps.far.Goals as goal

pub overflow_mul-x : goal.overflow_mul-x
overflow_mul-x c =
    record { fits = omega (arith, product c.args.x c.power-step.result c.ranges.x.fits c.power-step.ensures.1) }

pub overflow_add-lifted : goal.overflow_add-lifted
overflow_add-lifted c =
    record { fits = omega (arith, product c.args.x c.power-step.result c.ranges.x.fits c.power-step.ensures.1) }

pub twice-said-requires : goal.twice-said-requires
twice-said-requires c =
    omega (arith, product c.args.x c.power-step.result c.ranges.x.fits c.power-step.ensures.1)

pub overflow_add-result-2 : goal.overflow_add-result-2
overflow_add-result-2 c =
    record { fits = omega (arith, product c.args.x c.power-step.result c.ranges.x.fits c.power-step.ensures.1) }

pub returns : goal.returns
returns c =
    let f = c.ranges in
    out-by _ _ _ _ _ _ _ _ _ (c.lifted-2.ensures.0 ∙ back _ f.v)
    (c.lifted.ensures.0 ∙ back _ f.r) c.power-step.ensures.0 c.twice-given.ensures c.twice-said.ensures
