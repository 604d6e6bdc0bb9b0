use native.Mathlib.Omega.{arith}
use borrow.Author.Rules.{rules}
use mathlib.Core.Path.{ap, ◌∙◌}
use lib.ListN.{get_or}
use lib.IntN.{ℤ, pos, nat_abs, ◌-ℤ◌}
use mir.Syntax.{w32}
use mir.Val.{to_z, of_z}
use mir.Facts.{to_z-of_z}
use Rattle.steps.proofs.Near.{none, stored_more}
use Rattle.steps.proofs.scale_fitting.Goals as goal

pub loop-i-init : goal.loop-i-init
loop-i-init c = let a = c.args in none a.numbers.now _ a.e a.xs.now

pub loop-i-preserved : goal.loop-i-preserved
loop-i-preserved c =
    let l = c.loop-i in
    let a = c.args in
    let r = to_z w32 (of_z w32 a.r) in
    let z = get_or a.numbers.now l.i (pos 0) in
    let k = c.distance.ensures ∙ ap (λ (x : ℤ). nat_abs (x -ℤ r)) (to_z-of_z {w = w32} {z = z} (search rules)) in
    stored_more a.numbers.now r a.e a.xs.now l.i l.xs (omega arith) l.invariant c.distance.result c.step.result k c.step.ensures
