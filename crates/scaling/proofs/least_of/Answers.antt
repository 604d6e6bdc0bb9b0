use mathlib.Core.Path.{◌∙◌}
use borrow.Author.Rules.{rules}
use lib.IntN.{pos}
use lib.ListN.{get_or}
use mir.Syntax.{w32}
use mir.Facts.{to_z-of_z}
use Rattle.scaling.specs.Spread.{lesser_of}
use Rattle.scaling.proofs.Folded.{fold_none, fold_next}
use Rattle.scaling.proofs.least_of.Goals as goal

pub loop-v-init : goal.loop-v-init
loop-v-init c = fold_none _ _ _

pub loop-v-preserved : goal.loop-v-preserved
loop-v-preserved c =
    let l = c.loop-v in
    let a = c.args in
    to_z-of_z {w = w32} {z = c.min-least.result} (search rules)
    ∙ fold_next lesser_of _ (λ j. get_or a.numbers.now j (pos 0)) l.v-index _ _ _
    (to_z-of_z {w = w32} {z = get_or a.numbers.now l.v-index (pos 0)} (search rules)) l.invariant c.min-least.ensures.value
