-- R as the walk finds it, and E from the spread, by the law exponent-is of Choosing.
use mathlib.Core.Path.{refl, sym, ap₂, ◌∙◌}
use mathlib.Core.Bool.{true, false}
use native.Mathlib.Omega.{arith}
use borrow.Author.Rules.{rules}
use lib.IntN.{pos}
use lib.ListN.{length}
use mir.Syntax.{w32}
use mir.Facts.{to_z-of_z}
use Rattle.scaling.specs.Spread.{floor, spread_of}
use Rattle.scaling.proofs.Distances.{floor-spread}
use Rattle.scaling.proofs.Choosing.{reference-is, exponent-is, none_highest}
use Rattle.scaling.proofs.choose.Goals as goal

pub returns-in-Some : goal.returns-in-Some
returns-in-Some c = λ d.
    let a = c.args in
    let x = c.in-Some.x in
    let w = c.in-Some.ensures in
    let low = to_z-of_z {w = w32} {z = x.low} (search rules) in
    let high = to_z-of_z {w = w32} {z = x.high} (search rules) in
    let r = reference-is a.numbers.now a.marks.now d true _ _ (sym w.0) w.1.0 refl in (
      low ∙ r,
      exponent-is a.numbers.now a.marks.now d _ _ (search rules) r w.1.1 a.bits _ _
          (c.spread.ensures ∙ ap₂ spread_of low high) c.least_step.ensures,
    )

pub returns-in-None : goal.returns-in-None
returns-in-None c = λ d.
    let a = c.args in
    let r = reference-is a.numbers.now a.marks.now d false _ _ (sym c.in-None.ensures) refl refl in (
      r,
      exponent-is a.numbers.now a.marks.now d (pos 0) floor (omega arith) r
          (none_highest a.numbers.now a.marks.now (length a.numbers.now) c.in-None.ensures) a.bits _ _
          (sym (floor-spread (pos 0) (omega arith))) c.least_step-in-None.ensures,
    )
