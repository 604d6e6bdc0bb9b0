-- R is read back.
use mathlib.Core.Path.{◌≡◌, sym, ap, ◌∙◌}
use Prim.Native.Nat.{ℕ, ◌+◌, ◌*◌}
use native.Mathlib.Omega.{arith}
use borrow.Author.Rules.{rules}
use lib.ListN.{length}
use Rattle.std.specs.Iterator.Adapters.{enumerate_count}
use Rattle.bits.specs.Bits.{count}
use Rattle.bits.specs.Tables.{any_below}
use Rattle.bits.proofs.Below.{any_none}
use Rattle.laws.specs.Marks.{here}
use Rattle.gathering.proofs.Chunks.{left_all, none_before, chunk_turn}
use Rattle.source.proofs.Field.{present-all}
use Rattle.checker.specs.Points.{out as is_out}
use Rattle.checker.proofs.Far.{place-first, place-chunk, far-chunk}
use Rattle.checker.proofs.points.any_far.Goals as goal

pub loop-b-init : goal.loop-b-init
loop-b-init c =
    let a = c.args in
    let f : enumerate_count c.into_iter-b-iterator.result ≡ 0 = search rules in
    let z = none_before _ (length a.numbers.now) f in
    record {
      left = left_all _ _ _ _ (search rules) (search rules) f;
      place = place-first a.marks.now a.from a.n ∙ ap (λ (x : ℕ). a.from + count (here a.marks.now) 0 x * a.n) z;
      judged = any_none (is_out a.s.now a.numbers.now a.marks.now a.from a.n _ a.e)
          ∙ ap (any_below (is_out a.s.now a.numbers.now a.marks.now a.from a.n _ a.e)) z;
    }

pub block_far-turn-requires : goal.block_far-turn-requires
block_far-turn-requires c =
    let a = c.args in
    let t = (chunk_turn _ _ _ _ _ _ _ _ _ c.loop-b.invariant.left c.in-Some.ensures.steps).0 in
    record {
      e_le_step_most = (c.requires.e_le_step_most.0, c.requires.e_le_step_most.1.0);
      j_value = λ h j k. present-all a.marks.now (length a.numbers.now) (sym c.all_present-all.ensures ∙ h)
          (c.in-Some.b * 256 + j) (omega (arith, t.inside));
      numbers_in_bounds = omega (arith, t.inside, c.requires.numbers_value.0);
      numbers_few = t.most;
    }

pub loop-b-preserved : goal.loop-b-preserved
loop-b-preserved c =
    let a = c.args in
    let l = c.loop-b in
    let t = chunk_turn _ _ _ _ _ _ _ _ _ l.invariant.left c.in-Some.ensures.steps in
    record {
      left = t.1;
      place = place-chunk a.numbers.now a.marks.now a.from a.n _ _ _ _ t.0 _ _ l.invariant.place c.block_far-turn.ensures.at_value
          c.requires.e_le_step_most.1.1 c.requires.numbers_value.1 c.requires.e_le_step_most.1.0;
      judged = far-chunk a.s.now a.numbers.now a.marks.now a.from a.n _ a.e _ _ _ _ t.0 _ l.invariant.place _ _ l.invariant.judged c.block_far-turn.ensures.out_value;
    }
