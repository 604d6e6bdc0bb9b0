-- Neither double is a NaN, so each is what its bits say.
use mathlib.Core.Path.{◌∙◌}
use Rattle.rules.specs.Display.{shown_reference, shown_step}
use Rattle.display.proofs.Shift.{shifted}
use Rattle.display.proofs.Finite.{no_nan, ref_small}
use native.Mathlib.Omega.{arith}
use Rattle.display.proofs.shown.Goals as goal

pub float_from_bits-result : goal.float_from_bits-result
float_from_bits-result c =
    no_nan c.ref_bits-reference.result
    (rw c.ref_bits-reference.ensures (ref_small _ _ _ (omega arith) (omega arith) (omega arith)))

pub float_from_bits-result-2 : goal.float_from_bits-result-2
float_from_bits-result-2 c =
    let s = shifted _ c.requires.0 c.requires.1 in
    no_nan c.step_bits-step.result (rw (c.step_bits-step.ensures ∙ s.bits) (omega (arith, s)))

pub returns : goal.returns
unfolding shown_reference shown_step
returns c = simp (c.ref_bits-reference.ensures, c.step_bits-step.ensures)
