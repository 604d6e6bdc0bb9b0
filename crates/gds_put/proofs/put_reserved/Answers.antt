-- The four octets (law put).
use native.Mathlib.Omega.{arith}
use Prim.Native.Nat.{◌+◌}
use Rattle.puts.proofs.Laying.{laid_none, put}
use Rattle.gds_put.proofs.put_reserved.Goals as goal

pub returns : goal.returns
returns c =
    let a = c.args in
    let l0 = laid_none a.out.now (a.g + 28) 4 (omega arith) in
    let l1 = put l0 _ _ _ _ _ c.put_four.ensures.out_after (omega arith) (omega arith) (omega arith) in
    l1.is
