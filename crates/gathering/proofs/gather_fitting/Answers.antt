use mathlib.Core.Path.{refl}
use native.Mathlib.Omega.{arith}
use Prim.Native.Nat.{◌+◌}
use lib.ListN.{length-set}
use Rattle.gathering.specs.Gather.{here_from}
use Rattle.gathering.proofs.Here.{here-is}
use Rattle.gathering.proofs.Gathered.{list_none, list_turn}
use Rattle.gathering.proofs.gather_fitting.Goals as goal

pub loop-j-init : goal.loop-j-init
loop-j-init g c =
    let a = c.args in
    let z = list_none (here_from a.marks.now a.at) a.values.now a.held.now in
    (refl, omega arith, z.0, z.1)

pub loop-j-preserved : goal.loop-j-preserved
loop-j-preserved g c =
    let l = c.loop-j in
    let a = c.args in
    let t =
    list_turn (here_from a.marks.now a.at) a.values.now l.j l.d _ _ l.held a.held.now l.invariant.2 l.invariant.3
    c.loop-j-test.true c.index-values-j.is (here-is a.marks.now (a.at + l.j) _ c.one-d.ensures.0) in
    (simp length-set l.invariant.0, omega (arith, c.one-d.ensures.1), t.0, t.1)
