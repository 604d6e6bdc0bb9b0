-- Laws block_more and last-all.
use mathlib.Core.Path.{◌≡◌, refl, sym, ap, subst, ◌∙◌}
use mathlib.Core.List.{List}
use Prim.Native.Nat.{ℕ, ◌*◌}
use native.Mathlib.Omega.{arith}
use borrow.Author.Rules.{rules}
use lib.ListN.{length}
use Rattle.std.specs.Iterator.Adapters.{enumerate_count}
use Rattle.rules.specs.Bitmap.{mark_of, value_of}
use Rattle.rules.specs.Points.{gathered}
use Rattle.blocks.proofs.Chunks.{left_all, left_none, none_before, chunk_turn}
use Rattle.blocks.specs.Passed.{Passed}
use Rattle.blocks.proofs.Passing.{passed_none, block_more, last-all, part-value, present-room}
use Rattle.writer.proofs.present_values.put_points.Goals as goal

pub loop-b-init : goal.loop-b-init
loop-b-init c =
    let a = c.args in
    let v = value_of a.values.now in
    let f : enumerate_count c.into_iter-b-iterator.result ≡ 0 = search rules in
    let z = none_before _ (length a.values.now) f in
    record {
      left = left_all _ _ _ _ (search rules) (search rules) f;
      few = omega arith;
      passed = subst (λ (x : ℕ). Passed a.bits (gathered (mark_of a.marks.now) v x) a.out.now (record { place = 0; held = 0 }) a.held.now a.out.now) z
          (passed_none a.bits a.marks.now v a.out.now a.held.now (search rules));
    }

pub loop-b-preserved : goal.loop-b-preserved
loop-b-preserved c =
    let l = c.loop-b in
    let a = c.args in
    let p = c.requires.listed in
    let N = length a.values.now in
    let v = value_of a.values.now in
    let t = chunk_turn _ _ _ _ _ _ _ _ _ l.invariant.left c.in-Some.ensures.steps in
    let i = c.in-Some.b * 256 in
    let block = c.in-Some.block.now in
    let q = subst (λ (x : ℕ). Passed a.bits (gathered (mark_of a.marks.now) v x) a.out.now l.progress l.held l.out) t.0.before l.invariant.passed in
    let r = block_more a.bits a.marks.now v N (omega (arith, c.requires.bits_le_bits_most)) p.value a.out.now (present-room a.bits a.marks.now v N _ p.mark c.requires.bits_in_bounds)
    i (length block) block refl t.0.most t.0.inside (omega (arith, p.same))
    (λ j h _. ap (λ (z : List ℕ). value_of z j) t.0.here ∙ part-value a.values.now i (length block) j h)
    l.progress l.held l.out l.invariant.few q _ c.put_block-progress.ensures.value _
    c.put_block-progress.ensures.held_after _ c.put_block-progress.ensures.out_after in
    record {
      left = t.1;
      few = r.0;
      passed = subst (λ (x : ℕ). Passed a.bits (gathered (mark_of a.marks.now) v x) a.out.now c.put_block-progress.result c.put_block-progress.new.held c.put_block-progress.new.out) (sym t.0.after) r.1;
    }

pub returns : goal.returns
returns c =
    let l = c.loop-b in
    let a = c.args in
    let p = c.requires.listed in
    let N = length a.values.now in
    let v = value_of a.values.now in
    let e = left_none _ _ _ _ l.invariant.left c.in-None.ensures.steps.0.1.0 in
    last-all a.bits a.marks.now v N (omega (arith, c.requires.bits_le_bits_most)) p.value a.out.now
    (present-room a.bits a.marks.now v N _ p.mark c.requires.bits_in_bounds)
    l.progress l.held l.out l.invariant.few
    (subst (λ (x : ℕ). Passed a.bits (gathered (mark_of a.marks.now) v x) a.out.now l.progress l.held
    l.out) e l.invariant.passed) _ c.put_last.ensures.out_after
