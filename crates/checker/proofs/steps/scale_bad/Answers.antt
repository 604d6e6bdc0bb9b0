-- Refusal 16: E's two tests and R's, with the list of tests opened.
use borrow.Author.Rules.{rules}
use mathlib.Core.Path.{◌≡◌}
use mir.Syntax.{w32}
use mir.Val.{to_z, of_z}
use Rattle.checker.proofs.Rows.{scale-is}
use Rattle.checker.proofs.steps.scale_bad.Goals as goal

pub returns : goal.returns
returns c =
    let v = c.args.c.e.value in
    let e : to_z w32 (of_z w32 v) ≡ v = search rules in
    scale-is _ _ _ e c.whole_bad.ensures
