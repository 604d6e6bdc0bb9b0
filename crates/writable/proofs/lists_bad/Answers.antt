-- Refusal 13: two returns, each one law of Judged.
use mathlib.Core.Path.{sym, ◌∙◌}
use Rattle.writable.proofs.Judged.{lists-short, lists-read, lists-long}
use Rattle.writable.proofs.lists_bad.Goals as goal

pub points_bad-requires : goal.points_bad-requires
points_bad-requires c =
    let a = c.args in
    let l = lists-long a.pds.now a.form a.values.now a.marks.now a.n (sym c.lists_fit.ensures ∙ c.if-lists_fit.true) in
    l.0

pub returns-then-lists_fit : goal.returns-then-lists_fit
returns-then-lists_fit c =
    lists-read _ _ _ _ _ (sym c.lists_fit.ensures ∙ c.if-lists_fit.true) _ _
    c.grid_given-ground.ensures c.bitmap_given-gaps.ensures
    _ c.points_bad.ensures _ _ c.has_grid.ensures c.pick.ensures
    _ _ c.has_bitmap.ensures c.pick-then-lists_fit.ensures

pub returns : goal.returns
returns c = lists-short _ _ _ _ _ (sym c.lists_fit.ensures ∙ c.if-lists_fit.false)
