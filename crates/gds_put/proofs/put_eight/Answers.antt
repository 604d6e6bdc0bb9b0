-- The eight octets, in two numbers (law eight).
use native.Mathlib.Omega.{arith}
use Prim.Native.Nat.{◌+◌}
use mathlib.Core.Path.{ap, ◌∙◌}
use Rattle.bits.specs.Bits.{placed}
use Rattle.gds_put.proofs.Laws.{eight}
use Rattle.puts.proofs.Laying.{laid_none, put}
use Rattle.gds_put.proofs.put_eight.Goals as goal

pub returns : goal.returns
returns c =
    let a = c.args in
    let l0 = laid_none a.out.now (a.g + 34) 8 (omega arith) in
    let l1 = put l0 _ _ _ _ _ c.put_four.ensures.out_after (omega arith) (omega arith) (omega arith) in
    let l2 = put l1 _ _ _ _ _ c.put_four-2.ensures.out_after (omega arith) (omega arith) (omega arith) in
    l2.is ∙ ap (placed a.out.now (a.g + 34)) eight
