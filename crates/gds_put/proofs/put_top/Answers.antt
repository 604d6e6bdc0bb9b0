-- Octets 1 to 6 field by field (law put).
use native.Mathlib.Omega.{arith}
use Rattle.puts.proofs.Laying.{laid_none, put}
use Rattle.gds_put.proofs.put_top.Goals as goal

pub returns : goal.returns
returns c =
    let a = c.args in
    let l0 = laid_none a.out.now a.g 6 (omega arith) in
    let l1 = put l0 _ _ _ _ _ c.put_three.ensures.out_after (omega arith) (omega arith) (omega arith) in
    let l2 = put l1 _ _ _ _ _ c.put_octet.ensures.out_after (omega arith) (omega arith) (omega arith) in
    let l3 = put l2 _ _ _ _ _ c.put_octet-2.ensures.out_after (omega arith) (omega arith) (omega arith) in
    let l4 = put l3 _ _ _ _ _ c.put_octet-3.ensures.out_after (omega arith) (omega arith) (omega arith) in
    l4.is
