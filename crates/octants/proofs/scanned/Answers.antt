use native.Mathlib.Omega.{arith}
use Prim.Native.Nat.{◌≤◌}
use mathlib.Core.Path.{◌≡◌}
use lib.ListN.{length, drop_of_length-le}
use Rattle.rules.specs.Counts.{counts_of}
use Rattle.laws.proofs.Counts.{left_here, left-on, left-none}
use Rattle.octants.proofs.Laws.{spot_is}
use Rattle.octants.proofs.scanned.Goals as goal

pub returns-then-left-c : goal.returns-then-left-c
returns-then-left-c c =
    spot_is _ _ _ _ (left_here _ _ _ _ _ c.loop-j.invariant (omega arith) c.count-c.ensures c.if-left-c.true)

pub loop-j-preserved : goal.loop-j-preserved
loop-j-preserved c = left-on _ _ _ _ _ c.loop-j.invariant (omega arith) c.count-c.ensures c.if-left-c.false

pub returns : goal.returns
returns c =
    let e : c.loop-j.j ≡ c.rows-high.result = omega arith in
    let past : length (counts_of c.args.start) ≤ c.rows-high.result = omega arith in
    spot_is _ _ _ _ (left-none _ _ _ _ (rw e at c.loop-j.invariant) (drop_of_length-le _ past))
