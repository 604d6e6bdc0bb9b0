-- A BDS's fields, one after another (laws put and put-signed).
use native.Mathlib.Omega.{arith}
use Rattle.puts.proofs.Laying.{laid_none, put, put-signed}
use Rattle.framing.proofs.laying.put_bds.Goals as goal

pub returns : goal.returns
returns c =
    let a = c.args in
    let l0 = laid_none a.out.now a.d 11 (omega arith) in
    let l1 = put l0 _ _ _ _ _ c.put_three.ensures.out_after (omega arith) (omega arith) (omega arith) in
    let l2 = put l1 _ _ _ _ _ c.put_octet.ensures.out_after (omega arith) (omega arith) (omega arith) in
    let l3 = put-signed l2 _ _ _ _ _ c.put_signed_two.ensures.out_after (omega arith) (omega arith) (omega arith) in
    let l4 = put l3 _ _ _ _ _ c.put_four.ensures.out_after (omega arith) (omega arith) (omega arith) in
    let l5 = put l4 _ _ _ _ _ c.put_octet-2.ensures.out_after (omega arith) (omega arith) (omega arith) in
    l5.is
