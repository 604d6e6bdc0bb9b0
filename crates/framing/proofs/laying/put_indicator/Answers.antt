-- The indicator's fields, one after another (law put).
use Rattle.puts.proofs.Laying.{laid_none, put}
use native.Mathlib.Omega.{arith}
use Rattle.framing.proofs.laying.put_indicator.Goals as goal

pub returns : goal.returns
returns c =
    let a = c.args in
    let l0 = laid_none a.out.now 0 8 (omega arith) in
    let l1 = put l0 _ _ _ _ _ c.put_four.ensures.out_after (omega arith) (omega arith) (omega arith) in
    let l2 = put l1 _ _ _ _ _ c.put_three.ensures.out_after (omega arith) (omega arith) (omega arith) in
    let l3 = put l2 _ _ _ _ _ c.put_octet.ensures.out_after (omega arith) (omega arith) (omega arith) in
    l3.is
