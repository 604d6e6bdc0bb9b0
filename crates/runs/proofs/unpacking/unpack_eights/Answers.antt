use mathlib.Core.Path.{◌≡◌, refl}
use Prim.Native.Nat.{◌+◌, ◌-◌, ◌*◌, ◌/◌, ◌%◌}
use native.Mathlib.Nat.{add-mul}
use native.Mathlib.Omega.{arith}
use Rattle.bits.specs.Bits.{runs}
use Rattle.bits.specs.Tables.{tab}
use Rattle.bits.proofs.Runs.{next, next_le}
use Rattle.bits.proofs.Unpack.{read_turn}
use Rattle.runs.proofs.Lists.{turn_inside}
use Rattle.runs.proofs.Parts.{part-is}
use Rattle.runs.proofs.unpacking.unpack_eights.Goals as goal

pub loop-g-init : goal.loop-g-init
unfolding runs tab
loop-g-init c = refl

pub eight_at-w-requires : goal.eight_at-w-requires
eight_at-w-requires c =
    let g = c.loop-g.g in
    let a = c.args in record {
      skip_bound = omega arith;
      n_in_bounds = turn_inside a.s.now a.at a.n a.m (g * 8) (a.at / 8 + g * a.n) (omega arith) (omega arith) (omega arith);
    }

pub loop-j-preserved : goal.loop-j-preserved
loop-j-preserved c =
    let q = c.loop-j in
    let i = c.loop-g.g * 8 in
    let a = c.args in
    let h = next_le q.j 8 a.n (omega arith) in
    let r : i + (q.j + 1) ≡ i + q.j + 1 = omega arith in record {
      place = omega (arith, next q.j a.n);
      read = rw r
          (read_turn a.s.now a.at a.n a.m c.loop-g.out q.out i (i + q.j) c.part.result _ (omega arith) q.invariant.read
          (part-is a.s.now _ (a.at % 8 + a.n * 8) (a.at % 8 + q.j * a.n) a.n (q.up - a.n) _ _
          c.eight_at-w.ensures (omega arith) c.part.ensures)
          (omega (arith, add-mul i q.j a.n)));
    }
