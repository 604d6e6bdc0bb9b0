use mathlib.Core.Path.{◌≡◌, refl, sym, ap₂, ◌∙◌, subst}
use mathlib.Core.List.{List}
use Prim.Native.Nat.{ℕ, ◌<◌, ◌+◌, ◌*◌, ◌/◌, ◌^◌}
use native.Mathlib.Nat.{mul-le-mul_right}
use native.Mathlib.Omega.{arith}
use lib.ListN.{length}
use Rattle.bits.specs.Bits.{octets_for, number_at}
use Rattle.bits.proofs.Runs.{bits_in-bits, run-below}
use Rattle.bits.proofs.Placed.{pack-none}
use Rattle.packs.proofs.Small.{small_turn, more_left, ahead_turn, ahead-kept, ahead-all}
use Rattle.packs.proofs.packing.pack_small.Goals as goal

pub loop-g-init : goal.loop-g-init
loop-g-init c =
    let a = c.args in record {
      inside = omega arith;
      packed = pack-none a.n a.vs.now a.out.now;
      kept = refl;
    }

pub eight-requires-clause-i_in_bounds : goal.eight-requires-clause-i_in_bounds
eight-requires-clause-i_in_bounds c =
    let g = c.loop-g.g in
    let a = c.args in
    (more_left a.n (length a.vs.now) (g * 8) (g * a.n) (omega arith) (omega arith)
    (c.eights_ahead-ahead.ensures g (omega arith))).0

pub overflow_shl-eight : goal.overflow_shl-eight
overflow_shl-eight c =
    let g = c.loop-g.g in
    let a = c.args in
    omega (
      arith,
      (more_left a.n (length a.vs.now) (g * 8) (g * a.n) (omega arith) (omega arith)
          (c.eights_ahead-ahead.ensures g (omega arith))).1,
    )

pub loop-g-preserved : goal.loop-g-preserved
loop-g-preserved c =
    let l = c.loop-g in
    let a = c.args in
    let h = c.eights_ahead-ahead.ensures l.g (omega arith) in
    let m = (more_left a.n (length a.vs.now) (l.g * 8) (l.g * a.n) (omega arith) (omega arith) h).0 in
    let e : (l.g + 1) * 8 ≡ l.g * 8 + 8 = omega arith in record {
      inside = omega (arith, m);
      packed = rw e
          (ahead_turn a.n a.vs.now l.out (l.g * 8) (l.g * a.n) _ c.requires.wide (omega arith) m (omega arith)
          c.eight.ensures _ l.invariant.packed c.store.ensures);
      kept = ahead-kept l.out _ (l.g * a.n) (octets_for (length a.vs.now * a.n)) _ h (omega (arith, h)) c.store.ensures
          ∙ l.invariant.kept;
    }

pub store-requires-in-loop-g-2-clause-x_bound : goal.store-requires-in-loop-g-2-clause-x_bound
store-requires-in-loop-g-2-clause-x_bound c =
    let a = c.args in
    subst (λ (x : ℕ). x < 2 ^ (a.n * 8)) (sym c.eight-in-loop-g-2.ensures)
    (run-below (bits_in-bits a.n a.vs.now) (c.loop-g-2.g * 8 * a.n) (8 * a.n) (a.n * 8) (omega arith))

pub store-requires-in-loop-g-2-clause-c_in_bounds : goal.store-requires-in-loop-g-2-clause-c_in_bounds
store-requires-in-loop-g-2-clause-c_in_bounds c =
    let g = c.loop-g-2.g in
    let a = c.args in
    omega (arith, mul-le-mul_right {m = g * 8 + 8} {n = length a.vs.now} a.n (omega arith))

pub loop-g-2-preserved : goal.loop-g-2-preserved
loop-g-2-preserved c d e =
    let l = c.loop-g-2 in
    let a = c.args in
    let r : (l.g + 1) * 8 ≡ l.g * 8 + 8 = omega arith in
    rw r
    (c.store-in-loop-g-2.ensures
    ∙ ap₂ (λ (x : List ℕ) (y : ℕ). number_at x (l.g * a.n) a.n y) (l.invariant d e) c.eight-in-loop-g-2.ensures
    ∙ small_turn a.n a.vs.now d (l.g * 8) (l.g * a.n) c.requires.wide (omega arith) (omega arith) (omega arith))

pub returns : goal.returns
returns c =
    let m = c.loop-g-2 in
    let l = c.loop-g in
    let a = c.args in
    let e : l.g ≡ c.eights_ahead-ahead.result = omega arith in
    let f : m.g ≡ length a.vs.now / 8 = omega arith in
    c.pack_rest.ensures l.out (rw f at (m.invariant l.out (rw e at l.invariant.packed)))
    ∙ ahead-all a.n a.vs.now l.out a.out.now l.invariant.kept
