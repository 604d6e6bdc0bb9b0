-- The bits inside put as marks, and zeros after them.
use mathlib.Core.Path.{sym}
use native.Mathlib.Omega.{arith}
use Rattle.marks.proofs.Bitmaps.{G, bit_past, filled_from, fill_done, fill-short}
use Rattle.std.proofs.lemmas.List.{length-take, length-drop}
use Rattle.marks.proofs.laying.fill.Goals as goal

pub returns-then-n-marks-clause-marks_after : goal.returns-then-n-marks-clause-marks_after
returns-then-n-marks-clause-marks_after c =
    let a = c.args in
    let f = G a.map.now a.k in
    (fill_done f a.marks.now _ a.n (omega arith)
    (filled_from f a.marks.now c.fill_inside.new.marks c.fill.new.self 0 c.inside-m.result a.n _ (omega arith) (omega arith) c.fill_inside.ensures
    (simp (length-take, length-drop) (omega arith)) (c.fill.ensures.after (λ y h. h)) (λ i h l. sym (bit_past a.map.now a.k i (omega arith))))).1

pub returns-clause-marks_after : goal.returns-clause-marks_after
returns-clause-marks_after c = let a = c.args in (fill-short (G a.map.now a.k) a.marks.now a.n (omega arith)).1
