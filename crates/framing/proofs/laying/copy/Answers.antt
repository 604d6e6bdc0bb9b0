use native.Mathlib.Omega.{arith}
use mathlib.Core.Path.{◌≡◌, refl, sym, ap, ◌∙◌}
use Prim.Native.Nat.{ℕ}
use lib.ListN.{length, take, length-set}
use lib.Seq.{take-length}
use Rattle.bits.specs.Bits.{placed}
use Rattle.bits.proofs.Placing.{placed-none}
use Rattle.framing.proofs.Placing.{copied}
use Rattle.framing.proofs.laying.copy.Goals as goal

pub loop-i-init : goal.loop-i-init
loop-i-init c = (refl, sym (placed-none _ _))

pub loop-i-preserved : goal.loop-i-preserved
loop-i-preserved c =
    let l = c.loop-i in
    (simp length-set l.invariant.0, copied _ _ _ _ _ (omega arith) (omega arith) l.invariant.1)

pub returns : goal.returns
returns c =
    let a = c.args in
    let e : c.loop-i.i ≡ length a.s.now = omega arith in
    c.loop-i.invariant.1 ∙ ap (λ (n : ℕ). placed a.out.now a.at (take n a.s.now)) e
    ∙ ap (placed a.out.now a.at) (take-length a.s.now)
