use mathlib.Core.Path.{◌≡◌, ap, ◌∙◌}
use native.Mathlib.Omega.{arith}
use Prim.Native.Nat.{ℕ, ◌<◌, ◌+◌}
use mathlib.Core.List.{[]}
use Rattle.bits.specs.Bits.{placed}
use Rattle.rules.specs.Bounds.{octant_rows}
use Rattle.rules.specs.Numbers.{laid}
use Rattle.rules.specs.Counts.{counts_of}
use Rattle.laws.proofs.Counts.{count_most}
use Rattle.laws.proofs.Grids.{octant-few}
use Rattle.puts.proofs.Laying.{laid_none}
use Rattle.gds_put.specs.Section.{count_fields}
use Rattle.gds_put.proofs.Laws.{counts-put, counts-long}
use Rattle.gds_put.proofs.put_counts.Goals as goal

pub loop-i-init : goal.loop-i-init
unfolding count_fields
loop-i-init c = laid_none _ _ _ (omega arith)

pub overflow_cast-c : goal.overflow_cast-c
overflow_cast-c c =
    let f = c.args.start in
    record { fits = omega (arith, c.count-c.ensures, count_most (counts_of f) c.loop-i.i, octant-few f) }

pub loop-i-preserved : goal.loop-i-preserved
loop-i-preserved c =
    let l = c.loop-i in
    let most = count_most (counts_of c.args.start) l.i in
    let few : c.count-c.result < 65536 = omega (arith, c.count-c.ensures, most, octant-few c.args.start) in
    counts-put _ _ _ _ _ _ _ _ l.invariant c.loop-i-test.true (omega arith) c.count-c.ensures few
    c.put_two.ensures.out_after

pub shape_of-out : goal.shape_of-out
shape_of-out c = counts-long _ _ _ _ _ c.loop-i.invariant (omega arith)

pub returns : goal.returns
returns c =
    let l = c.loop-i in
    let e : l.i ≡ octant_rows = omega arith in
    l.invariant.is ∙ ap (λ (x : ℕ). placed c.args.out.now (c.args.g + 32) (laid (count_fields c.args.start x) [])) e
