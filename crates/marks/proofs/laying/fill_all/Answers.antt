-- A mark of 1 for each point.
use mathlib.Core.Path.{refl}
use native.Mathlib.Omega.{arith}
use Rattle.marks.proofs.Bitmaps.{filled, fill_done, fill-short}
use Rattle.std.proofs.lemmas.List.{length-take}
use Rattle.marks.proofs.laying.fill_all.Goals as goal

pub returns-then-n-marks-clause-marks_after : goal.returns-then-n-marks-clause-marks_after
returns-then-n-marks-clause-marks_after c =
    let a = c.args in
    (fill_done (λ _. 1) a.marks.now _ a.n (omega arith)
    (filled (λ _. 1) a.marks.now c.fill.new.self 1 a.n _ (simp length-take (omega arith)) (c.fill.ensures.after (λ y h. h)) (λ i h. refl))).1

pub returns-clause-marks_after : goal.returns-clause-marks_after
returns-clause-marks_after c = let a = c.args in (fill-short (λ _. 1) a.marks.now a.n (omega arith)).1
