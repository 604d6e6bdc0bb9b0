use mathlib.Core.Path.{refl}
use native.Mathlib.Omega.{arith}
use Rattle.bits.specs.Bits.{runs}
use Rattle.bits.specs.Tables.{tab}
use Rattle.bits.proofs.Unpack.{stored}
use Rattle.runs.proofs.unpacking.unpack_each.Goals as goal

pub loop-i-init : goal.loop-i-init
unfolding runs tab
loop-i-init c = refl

pub loop-i-preserved : goal.loop-i-preserved
loop-i-preserved c =
    let l = c.loop-i in
    let a = c.args in
    stored a.s.now a.out.now l.out a.at a.n l.i c.taken.result _ (omega arith) l.invariant c.taken.ensures refl
