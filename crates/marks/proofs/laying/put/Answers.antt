-- The octets of the marks that are there, which are those of n (law put-done); or nothing.
use native.Mathlib.Omega.{arith}
use Rattle.marks.proofs.Bitmaps.{put-done, put-short}
use Rattle.marks.proofs.laying.put.Goals as goal

pub returns-then-c-out-clause-out_after : goal.returns-then-c-out-clause-out_after
returns-then-c-out-clause-out_after c =
    let a = c.args in
    (put-done a.marks.now a.out.now _ a.n _ a.k a.c (omega arith) (omega arith) c.put_inside.ensures).1

pub returns-else-c-out-clause-out_after : goal.returns-else-c-out-clause-out_after
returns-else-c-out-clause-out_after c = let a = c.args in (put-short a.marks.now a.out.now a.n a.k a.c (omega arith)).1

pub returns-else-k-out-clause-out_after : goal.returns-else-k-out-clause-out_after
returns-else-k-out-clause-out_after c = let a = c.args in (put-short a.marks.now a.out.now a.n a.k a.c (omega arith)).1
