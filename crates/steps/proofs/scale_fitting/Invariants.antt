-- A turn stores one X more (law stored_more).
use mathlib.Core.Path.{◌≡◌}
use Rattle.steps.specs.Steps.{steps_to}
use Rattle.steps.proofs.scale_fitting.Given as goal

abbrev pub invariant-loop-i : goal.invariant-loop-i
invariant-loop-i l = l.xs ≡ steps_to l.numbers l.r l.e l.i l.initial.xs
