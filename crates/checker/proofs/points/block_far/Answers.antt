-- A block of which each point is present (law all-out), or some (law some_out); R is read back.
use mathlib.Core.Path.{ap, ◌∙◌}
use Prim.Native.Nat.{ℕ, ◌*◌}
use native.Mathlib.Omega.{arith}
use mir.Facts.{to_z-of_z}
use Rattle.bitreader.specs.Taken.{reached}
use Rattle.source.proofs.Blocks.{gathered-block, no_more}
use Rattle.checker.proofs.Far.{count-all, all-out, some_out}
use Rattle.checker.proofs.points.block_far.Goals as goal

pub returns-then-all : goal.returns-then-all
returns-then-all c =
    let a = c.args in
    let h = c.requires.j_value c.if-all.true in record {
      at_value = c.far_at.ensures.at_value ∙ ap (λ (x : ℕ). reached a.at (x * a.n)) (count-all a.marks.now a.i _ h);
      out_value = all-out a.s.now a.numbers.now a.marks.now a.i a.at a.n _ _ (to_z-of_z c.ranges.r) a.e h _ c.far_at.ensures.out_value;
    }

pub far_at-requires-2 : goal.far_at-requires-2
far_at-requires-2 c =
    let a = c.args in
    let g = gathered-block a.numbers.now a.marks.now a.i _ a.chosen.now _ c.requires.numbers_in_bounds (omega (arith, c.requires.numbers_few)) c.gather-m.ensures.value c.gather-m.ensures.held_after in
    let m = no_more _ _ _ _ _ g in
    record {
      e_le_step_most = c.requires.e_le_step_most;
      c_in_bounds = (
        omega (arith, m, c.requires.numbers_few),
        (omega (arith, m, c.requires.numbers_few), omega (arith, m, c.requires.numbers_few)),
      );
    }

pub returns : goal.returns
returns c =
    let a = c.args in
    let g = gathered-block a.numbers.now a.marks.now a.i _ a.chosen.now _ c.requires.numbers_in_bounds (omega (arith, c.requires.numbers_few)) c.gather-m.ensures.value c.gather-m.ensures.held_after in record {
      at_value = c.far_at-2.ensures.at_value ∙ ap (λ (x : ℕ). reached a.at (x * a.n)) g.many;
      out_value = some_out a.s.now a.numbers.now a.marks.now a.i a.at a.n _ _ (to_z-of_z c.ranges.r) a.e _ _ g _ c.far_at-2.ensures.out_value;
    }
