-- Refusal 13 of zeros for values: two returns, each one law of Judged over the laws of Marked.
use mathlib.Core.Path.{sym, ◌∙◌}
use mathlib.Core.Bool.{true, false}
use lib.Dec.{eqb}
use lib.ListN.{length}
use Rattle.writable.specs.Rows.{zeros}
use Rattle.writable.proofs.Judged.{store_fit, lists-short, lists-read}
use Rattle.writable.proofs.Marked.{length_zeros, zeros-marked}
use Rattle.writable.proofs.unlisted.marks_bad.Goals as goal

pub returns-then-lists_fit : goal.returns-then-lists_fit
returns-then-lists_fit c =
    let a = c.args in
    let g = c.bitmap_given-gaps.result in
    lists-read _ _ _ _ _
    (store_fit (zeros a.long) a.long a.n (eqb (length a.marks.now) a.n) true (length_zeros a.long)
    (sym c.lists_fit.ensures ∙ c.if-lists_fit.true)) _ _ c.grid_given-ground.ensures
    c.bitmap_given-gaps.ensures
    _ (c.marks_off.ensures ∙ sym (zeros-marked g a.form.packing.bits a.long a.marks.now a.n)) _ _
    c.has_grid.ensures c.pick.ensures
    _ _ c.has_bitmap.ensures c.pick-then-lists_fit.ensures

pub returns : goal.returns
returns c =
    let a = c.args in
    lists-short _ _ _ _ _
    (store_fit (zeros a.long) a.long a.n (eqb (length a.marks.now) a.n) false (length_zeros a.long)
    (sym c.lists_fit.ensures ∙ c.if-lists_fit.false))
