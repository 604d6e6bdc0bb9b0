use native.Mathlib.Omega.{arith}
use Prim.Native.Nat.{◌+◌}
use lib.ListN.{get_or}
use Rattle.marks.proofs.Points.{count_none, count-one, one-few, count-few}
use Rattle.marks.proofs.judging.some_present.Goals as goal

pub loop-i-init : goal.loop-i-init
loop-i-init c = count_none _ _

pub overflow_add-m : goal.overflow_add-m
overflow_add-m c =
    let l = c.loop-i in
    let a = c.args in
    omega (arith, count-few a.marks.now a.p l.i, one-few _ (get_or a.marks.now (a.p + l.i) 0) c.one-m.ensures)

pub loop-i-preserved : goal.loop-i-preserved
loop-i-preserved c =
    let l = c.loop-i in
    let a = c.args in
    count-one a.marks.now a.p l.i l.m _ l.invariant c.one-m.ensures
