-- The bits of 2^E: E + 1,023 is a number from 1 to 2,046 (Shift).
use mathlib.Core.Path.{sym}
use native.Mathlib.Omega.{arith}
use borrow.Author.Rules.{rules}
use mir.Syntax.{w32}
use mir.Val.{SFits}
use mir.Facts.{to_z-of_z}
use Rattle.display.proofs.Shift.{Shifted, shifted, word}
use Rattle.display.proofs.step_bits.Goals as goal

fits : (c : goal.After-struct_told-1) → SFits w32 c.args.e.value
fits c = search rules

here : (c : goal.After-struct_told-1) → Shifted c.args.e.value
here c = shifted c.args.e.value c.requires.0 c.requires.1

pub overflow_add-result : goal.overflow_add-result
overflow_add-result c = simp (to_z-of_z (fits c), (here c).is) (record { sfits = omega (arith, here c) })

pub overflow_cast-result : goal.overflow_cast-result
overflow_cast-result c = simp (word _ (here c) (fits c)) (tt, omega (arith, here c))

pub overflow_mul-result : goal.overflow_mul-result
overflow_mul-result c = simp (word _ (here c) (fits c)) (omega (arith, here c))

pub returns : goal.returns
returns c = simp (word _ (here c) (fits c)) (sym (here c).bits)
