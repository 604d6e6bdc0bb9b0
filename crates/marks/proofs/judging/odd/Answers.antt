use Prim.Native.Nat.{◌<◌}
use native.Mathlib.Omega.{arith}
use Rattle.std.proofs.lemmas.List.{get_or-take, length-take}
use Rattle.rules.specs.Bitmap.{mark_of}
use Rattle.widths.proofs.Lists.{below_none, below_turn}
use Rattle.marks.proofs.Points.{odd-done}
use Rattle.marks.proofs.judging.odd.Goals as goal

pub loop-mark-init : goal.loop-mark-init
loop-mark-init c = below_none 1 _

pub loop-mark-preserved : goal.loop-mark-preserved
loop-mark-preserved c =
    let l = c.loop-mark in
    let a = c.args in
    let h : l.mark-index < c.min.result = omega (arith, length-take c.min.result c.args.marks.now) in
    rw (get_or-take c.min.result a.marks.now l.mark-index 0 h)
    (below_turn 1 (λ k. mark_of a.marks.now k) l.mark-index l.all l.invariant)

pub returns : goal.returns
returns c =
    let l = c.loop-mark in
    let a = c.args in
    odd-done a.marks.now a.n l.mark-index l.all (omega (arith, length-take c.min.result a.marks.now)) l.invariant
