-- E where 16 takes it, and 0.
use Rattle.checker.proofs.Rows.{step_is, step-none, step-some}
use borrow.Author.Rules.{rules}
use native.Mathlib.Omega.{arith}
use mathlib.Core.Path.{◌≡◌, sym, ◌∙◌}
use mir.Syntax.{w32}
use mir.Val.{to_z, of_z}
use Rattle.checker.proofs.steps.step_of.Goals as goal

pub returns-then-scale_bad : goal.returns-then-scale_bad
returns-then-scale_bad c = step-none _ _ c.scale_bad.ensures c.if-scale_bad.true

pub overflow_cast-result : goal.overflow_cast-result
overflow_cast-result c =
    let v = c.args.c.e.value in
    let e : to_z w32 (of_z w32 v) ≡ v = search rules in
    let t = step_is c.args.c (sym c.scale_bad.ensures ∙ c.if-scale_bad.false) _ e in
    (t.0, record { fits = omega arith })

pub returns : goal.returns
returns c =
    let v = c.args.c.e.value in
    let e : to_z w32 (of_z w32 v) ≡ v = search rules in
    step-some c.args.c _ _ e c.scale_bad.ensures c.if-scale_bad.false
