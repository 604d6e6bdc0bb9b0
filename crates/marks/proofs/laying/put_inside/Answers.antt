use mathlib.Core.Path.{refl}
use native.Mathlib.Omega.{arith}
use lib.ListN.{length-set}
use Rattle.marks.proofs.Bitmaps.{F, octets-none, octets-more}
use Rattle.marks.proofs.laying.put_inside.Goals as goal

pub loop-g-init : goal.loop-g-init
loop-g-init c = (refl, octets-none _ _ _)

pub loop-g-preserved : goal.loop-g-preserved
loop-g-preserved c =
    let l = c.loop-g in
    let a = c.args in
    let e = c.octet_of.ensures a.m (omega arith) (λ h. omega arith) in
    (simp length-set l.invariant.0, octets-more a.out.now l.out (F a.marks.now a.m) a.k l.g _ (omega arith) e l.invariant.1)

pub loop-g-2-preserved : goal.loop-g-2-preserved
loop-g-2-preserved c =
    let l = c.loop-g-2 in
    let a = c.args in (
      simp length-set l.invariant.0,
      octets-more a.out.now l.out (F a.marks.now a.m) a.k l.g _ (omega arith) c.octet_after.ensures l.invariant.1,
    )
