use mathlib.Core.Path.{◌≡◌, refl}
use Prim.Native.Nat.{◌≤◌, ◌+◌, ◌*◌, ◌/◌, ◌%◌}
use native.Mathlib.Omega.{arith}
use lib.ListN.{length}
use Rattle.bits.specs.Bits.{runs}
use Rattle.bits.specs.Tables.{tab}
use Rattle.bits.proofs.Runs.{next}
use Rattle.bits.proofs.Unpack.{read_turn}
use Rattle.runs.proofs.Parts.{pair_is, pair_inside}
use Rattle.runs.proofs.unpacking.unpack_pairs.Goals as goal

pub loop-g-init : goal.loop-g-init
unfolding runs tab
loop-g-init c = refl

inside : (c : goal.In-loop-j) →
    let q = c.loop-j in
    let a = c.args in
    a.at / 8 + c.loop-g.g * a.n + q.p / 8 + 8 ≤ length a.s.now
inside c =
    let q = c.loop-j in
    let g = c.loop-g.g in
    let a = c.args in
    pair_inside a.s.now a.at a.n a.m (g * 8) (q.j * 2) (a.at / 8 + g * a.n) q.p q.invariant.place (omega arith)
    (omega arith) (omega arith) (omega arith)

pub leading-w-requires : goal.leading-w-requires
leading-w-requires c = record {
  k_in_bounds = inside c;
  c_nonzero = (omega arith, omega arith);
}

pub loop-j-preserved : goal.loop-j-preserved
loop-j-preserved c =
    let q = c.loop-j in
    let i = c.loop-g.g * 8 in
    let t = i + q.j * 2 in
    let a = c.args in
    let k = a.at / 8 + c.loop-g.g * a.n + q.p / 8 in
    let e : k * 8 + q.p % 8 ≡ a.at + t * a.n = omega (arith, q.invariant.place) in
    let r : i + (q.j + 1) * 2 ≡ t + 1 + 1 = omega arith in
    let v = pair_is _ k (q.p % 8) a.n _ _ _ c.leading-w.ensures c.part.ensures c.part-in-loop-j.ensures in record {
      few = omega arith;
      place = rw r (omega (arith, next t a.n, next (t + 1) a.n));
      read = rw r
          (read_turn a.s.now a.at a.n a.m c.loop-g.out _ i (t + 1) c.part-in-loop-j.result _ (omega arith)
          (read_turn a.s.now a.at a.n a.m c.loop-g.out q.out i t c.part.result _ (omega arith) q.invariant.read v.0 e)
          v.1 (omega (arith, next t a.n)));
    }
