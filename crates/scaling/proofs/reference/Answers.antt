-- R: the least number that the walk finds, or 0.
use mathlib.Core.Path.{refl, sym, ◌∙◌}
use mathlib.Core.Bool.{true, false}
use borrow.Author.Rules.{rules}
use mir.Syntax.{w32}
use mir.Facts.{to_z-of_z}
use Rattle.scaling.proofs.Choosing.{reference-is}
use Rattle.scaling.proofs.reference.Goals as goal

pub returns-in-Some : goal.returns-in-Some
returns-in-Some c = λ d.
    let a = c.args in
    let x = c.in-Some.x in
    let w = c.in-Some.ensures in
    to_z-of_z {w = w32} {z = x.low} (search rules)
    ∙ reference-is a.numbers.now a.marks.now d true _ _ (sym w.0) w.1.0 refl

pub returns-in-None : goal.returns-in-None
returns-in-None c = λ d. let a = c.args in reference-is a.numbers.now a.marks.now d false _ _ (sym c.in-None.ensures) refl refl
