use mathlib.Core.Path.{◌≡◌, ap, ◌∙◌}
use Prim.Native.Nat.{◌-◌, ◌+◌, ◌*◌, ◌%◌}
use native.Mathlib.Omega.{arith}
use Rattle.bits.specs.Bits.{count}
use Rattle.laws.specs.Marks.{here}
use Rattle.marks.proofs.Points.{count_none, count-few, count-more, count-all}
use Rattle.marks.proofs.judging.count.Goals as goal

pub loop-g-init : goal.loop-g-init
loop-g-init c = count_none _ 0

pub overflow_add-m : goal.overflow_add-m
overflow_add-m c =
    let l = c.loop-g in
    let s = c.args.marks.now in
    omega (arith, count-few s 0 (l.g * 128), count-few s (l.g * 128) 128, c.some_present.ensures)

pub loop-g-preserved : goal.loop-g-preserved
loop-g-preserved c =
    let l = c.loop-g in
    let s = c.args.marks.now in
    let e : l.g * 128 + 128 ≡ (l.g + 1) * 128 = omega arith in
    count-more s (l.g * 128) 128 l.m _ l.invariant c.some_present.ensures ∙ ap (count (here s) 0) e

pub overflow_add-result : goal.overflow_add-result
overflow_add-result c =
    let l = c.loop-g in
    let s = c.args.marks.now in
    let n = c.min-end.result in
    omega (arith, count-few s 0 (l.g * 128), count-few s (n - n % 128) (n % 128), c.some_present-2.ensures)

pub returns : goal.returns
returns c =
    let l = c.loop-g in
    let a = c.args in
    let n = c.min-end.result in
    let e : l.g * 128 ≡ n - n % 128 = omega arith in
    count-more a.marks.now (n - n % 128) (n % 128) l.m _ (l.invariant ∙ ap (count (here a.marks.now) 0) e)
    c.some_present-2.ensures
    ∙ count-all a.marks.now a.n (n - n % 128) (n % 128) (omega arith)
