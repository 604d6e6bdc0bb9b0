use Prim.Native.Nat.{◌<◌}
use native.Mathlib.Omega.{arith}
use Rattle.std.proofs.lemmas.List.{get_or-take, length-take}
use Rattle.marks.proofs.Points.{marked-none, marked_more, marked-done}
use Rattle.marks.proofs.judging.none_marked.Goals as goal

pub loop-mark-init : goal.loop-mark-init
loop-mark-init c = marked-none c.args.marks.now

pub loop-mark-preserved : goal.loop-mark-preserved
loop-mark-preserved c =
    let l = c.loop-mark in
    let h : l.mark-index < c.min.result = omega (arith, length-take c.min.result c.args.marks.now) in
    rw (get_or-take c.min.result c.args.marks.now l.mark-index 0 h) (marked_more c.args.marks.now l.mark-index l.some l.invariant)

pub returns : goal.returns
returns c =
    let l = c.loop-mark in
    let a = c.args in
    marked-done a.marks.now a.n l.mark-index l.some (omega (arith, length-take c.min.result a.marks.now)) l.invariant
