-- Refusal 18: lengths, and then the numbers where every point is present, or marks and present numbers; each return a
-- law of Field.
use mathlib.Core.Path.{refl, sym, ◌∙◌}
use Rattle.source.proofs.Field.{many, sized, unlike-long, late, late-all}
use Rattle.source.proofs.source_bad.Goals as goal

pub returns-then-many : goal.returns-then-many
returns-then-many c = many _ _ c.if-many.true

pub returns-then-marks-long : goal.returns-then-marks-long
returns-then-marks-long c = unlike-long _ _ _ c.long.ensures c.if-marks-long.true

pub returns-then-all_present : goal.returns-then-all_present
returns-then-all_present c =
    let a = c.args in
    let f = sized a.numbers.now a.marks.now _ c.long.ensures c.if-marks-long.false c.if-many.false in
    late-all _ _ f _ refl (sym c.all_present.ensures ∙ c.if-all_present.true) _ c.any_large.ensures

pub returns : goal.returns
returns c =
    let a = c.args in
    let f = sized a.numbers.now a.marks.now _ c.long.ensures c.if-marks-long.false c.if-many.false in
    late _ _ f _ refl _ _ c.odd.ensures c.present_large.ensures
