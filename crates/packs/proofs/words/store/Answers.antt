use mathlib.Core.Path.{◌≡◌}
use Prim.Native.Nat.{◌*◌}
use native.Mathlib.Omega.{arith}
use Rattle.bits.specs.Bits.{bit_of, number_at}
use Rattle.bits.proofs.Next.{number-none, number_turn}
use Rattle.packs.proofs.words.store.Goals as goal

pub loop-j-init : goal.loop-j-init
loop-j-init c = let a = c.args in number-none a.out.now a.k (bit_of (a.c * 8) a.x)

pub loop-j-preserved : goal.loop-j-preserved
loop-j-preserved c =
    let l = c.loop-j in
    let a = c.args in
    number_turn a.out.now l.out a.k a.c a.x l.j (omega arith) c.requires.x_bound (omega arith) l.invariant

pub returns : goal.returns
unfolding number_at
returns c =
    let e : c.loop-j.j ≡ c.args.c = omega arith in
    rw e at c.loop-j.invariant
