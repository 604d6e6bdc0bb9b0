use native.Mathlib.Omega.{arith}
use Rattle.bits.proofs.Unpack.{read_turn}
use Rattle.runs.proofs.unpacking.unpack_inside.Goals as goal

pub loop-i-preserved : goal.loop-i-preserved
loop-i-preserved c =
    let q = c.loop-i in
    let a = c.args in
    read_turn a.s.now a.at a.n a.m _ q.out _ q.i c.value.result _ (omega arith) q.invariant c.value.ensures (omega arith)
