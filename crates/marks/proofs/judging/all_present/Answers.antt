use mathlib.Core.Path.{◌≡◌, ap, ◌∙◌}
use mathlib.Core.Bool.{not}
use Prim.Native.Nat.{◌<◌}
use native.Mathlib.Omega.{arith}
use lib.Dec.{eqb}
use Rattle.std.proofs.lemmas.List.{get_or-take, length-take}
use Rattle.bits.specs.Tables.{any_below}
use Rattle.rules.specs.Bitmap.{mark_of}
use Rattle.marks.specs.Marks.{the_all_present}
use Rattle.marks.proofs.Points.{present-none, present-more, present-short}
use Rattle.marks.proofs.judging.all_present.Goals as goal

pub returns-then-marks-n : goal.returns-then-marks-n
returns-then-marks-n c = present-short _ _ c.if-marks-n.true

pub loop-mark-init : goal.loop-mark-init
loop-mark-init c = present-none c.args.marks.now

pub loop-mark-preserved : goal.loop-mark-preserved
loop-mark-preserved c =
    let l = c.loop-mark in
    let h : l.mark-index < c.args.n = omega (arith, length-take c.args.n c.args.marks.now) in
    rw (get_or-take c.args.n c.args.marks.now l.mark-index 0 h) (present-more c.args.marks.now l.mark-index l.gap l.invariant)

pub returns : goal.returns
unfolding the_all_present
returns c =
    let l = c.loop-mark in
    let a = c.args in
    let e : l.mark-index ≡ a.n = omega (arith, length-take a.n a.marks.now) in
    ap not (l.invariant ∙ ap (any_below (λ k. not (eqb (mark_of a.marks.now k) 1))) e)
