-- Octets 29 to 42 field by field (laws put and put-signed).
use native.Mathlib.Omega.{arith}
use Prim.Native.Nat.{◌+◌}
use Rattle.puts.proofs.Laying.{laid_none, put, put-signed}
use Rattle.gds_put.proofs.put_cone.Goals as goal

pub returns : goal.returns
returns c =
    let a = c.args in
    let l0 = laid_none a.out.now (a.g + 28) 14 (omega arith) in
    let l1 = put-signed l0 _ _ _ _ _ c.put_signed_three.ensures.out_after (omega arith) (omega arith) c.requires.sign_free.0 in
    let l2 = put-signed l1 _ _ _ _ _ c.put_signed_three-2.ensures.out_after (omega arith) (omega arith) c.requires.sign_free.1 in
    let l3 = put-signed l2 _ _ _ _ _ c.put_signed_three-3.ensures.out_after (omega arith) (omega arith) c.requires.sign_free.2 in
    let l4 = put-signed l3 _ _ _ _ _ c.put_signed_three-4.ensures.out_after (omega arith) (omega arith) c.requires.sign_free.3 in
    let l5 = put l4 _ _ _ _ _ c.put_two.ensures.out_after (omega arith) (omega arith) (omega arith) in
    l5.is
