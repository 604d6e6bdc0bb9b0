-- All of them where there is room, and none where there is not.
use native.Mathlib.Omega.{arith}
use mathlib.Core.Path.{ap, ◌∙◌}
use lib.IntN.{ℤ}
use lib.ListN.{length}
use mir.Facts.{to_z-of_z}
use Rattle.steps.specs.Steps.{steps_to}
use Rattle.steps.proofs.Near.{with-room, without-room}
use Rattle.steps.proofs.scale.Goals as goal

pub returns-then-numbers-xs : goal.returns-then-numbers-xs
returns-then-numbers-xs c =
    let a = c.args in
    with-room a.numbers.now a.r a.e a.xs.now (omega arith) _
    (c.scale_fitting.ensures
    ∙ ap (λ (x : ℤ). steps_to a.numbers.now x a.e (length a.numbers.now) a.xs.now)
    (to_z-of_z c.ranges.r))

pub returns-else-numbers-xs : goal.returns-else-numbers-xs
returns-else-numbers-xs c = let a = c.args in without-room a.numbers.now a.r a.e a.xs.now (omega arith)
