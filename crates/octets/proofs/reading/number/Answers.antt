use mathlib.Core.Path.{◌≡◌, refl}
use native.Mathlib.Omega.{arith}
use Prim.Native.Nat.{◌+◌, ◌-◌, ◌*◌}
use Rattle.bits.specs.Bits.{run}
use Rattle.bits.proofs.Runs.{bits_in-bits, run-below, run-lt}
use Rattle.octets.proofs.Numbers.{next}
use Rattle.octets.proofs.reading.number.Goals as goal

pub loop-j-init : goal.loop-j-init
unfolding run
loop-j-init g c = refl

pub overflow_mul-x : goal.overflow_mul-x
overflow_mul-x g c =
    let a = c.args in
    let q = c.loop-j in
    record { fits = omega (arith, q.invariant, run-below (bits_in-bits 8 a.s.now) ((a.p + (a.k - 1)) * 8) (q.j * 8) 24 (omega arith)) }

pub overflow_add-x : goal.overflow_add-x
overflow_add-x g c =
    let a = c.args in
    let q = c.loop-j in
    record { fits = omega (arith, q.invariant, run-below (bits_in-bits 8 a.s.now) ((a.p + (a.k - 1)) * 8) (q.j * 8) 24 (omega arith)) }

pub loop-j-preserved : goal.loop-j-preserved
loop-j-preserved g c =
    let a = c.args in
    let q = c.loop-j in
    next a.s.now a.p _ a.k q.j q.x _ c.offset.ensures q.invariant c.at.ensures (omega arith)

pub returns : goal.returns
returns g c =
    let a = c.args in
    let e : c.loop-j.j ≡ g.row.C = omega arith in
    let r = rw e at c.loop-j.invariant in record {
      value = r;
      fits = rw r (run-lt (bits_in-bits 8 a.s.now) ((a.p + (a.k - 1)) * 8) (g.row.C * 8));
    }
