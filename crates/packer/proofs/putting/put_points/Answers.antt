-- Laws steps_part, block_more and last-all. R is as code hands it on.
use mathlib.Core.Path.{◌≡◌, refl, sym, ap, subst, ◌∙◌}
use mathlib.Core.List.{List}
use Prim.Native.Nat.{ℕ, ◌+◌, ◌*◌}
use native.Mathlib.Omega.{arith}
use borrow.Author.Rules.{rules}
use lib.IntN.{ℤ}
use lib.ListN.{length, get_or, take}
use mir.Syntax.{w32}
use mir.Val.{to_z, of_z}
use Rattle.std.specs.Iterator.Adapters.{enumerate_count}
use Rattle.bits.proofs.Fill.{length-tab, get_or-tab}
use Rattle.rules.specs.Bitmap.{mark_of, marks_long, value_of}
use Rattle.rules.specs.Points.{gathered}
use Rattle.steps.specs.Steps.{step_of, steps_into}
use Rattle.steps.proofs.Near.{steps_part}
use Rattle.blocks.proofs.Chunks.{left_all, left_none, none_before, chunk_turn}
use Rattle.blocks.specs.Passed.{Passed}
use Rattle.blocks.proofs.Passing.{passed_none, block_more, last-all, present-room}
use Rattle.packer.specs.Scaled.{scaled_from}
use Rattle.packer.proofs.Stepped.{length-scaled, scaled-present, listed_back, packed-back}
use Rattle.packer.proofs.putting.put_points.Goals as goal

pub loop-b-init : goal.loop-b-init
loop-b-init c =
    let a = c.args in
    let v = value_of (scaled_from a.numbers.now a.marks.now (to_z w32 (of_z w32 a.r)) a.e) in
    let f : enumerate_count c.into_iter-b-iterator.result ≡ 0 = search rules in
    let z = none_before _ (length a.numbers.now) f in
    record {
      left = left_all _ _ _ _ (search rules) (search rules) f;
      few = omega arith;
      passed = subst (λ (x : ℕ). Passed a.bits (gathered (mark_of a.marks.now) v x) a.out.now (record { place = 0; held = 0 }) a.held.now a.out.now) z
          (passed_none a.bits a.marks.now v a.out.now a.held.now (search rules));
    }

pub loop-b-preserved : goal.loop-b-preserved
loop-b-preserved c =
    let l = c.loop-b in
    let a = c.args in
    let ref = to_z w32 (of_z w32 a.r) in
    let p = listed_back a.numbers.now a.marks.now a.r a.e (search rules) a.bits c.requires.listed in
    let long : length a.marks.now ≡ marks_long (length a.numbers.now) = p.same ∙ ap marks_long (length-scaled a.numbers.now a.marks.now ref a.e) in
    let N = length a.numbers.now in
    let v = value_of (scaled_from a.numbers.now a.marks.now ref a.e) in
    let w = chunk_turn _ _ _ _ _ _ _ _ _ l.invariant.left c.in-Some.ensures.steps in
    let t = w.0 in
    let i = c.in-Some.b * 256 in
    let block = c.in-Some.block.now in
    let m = length block in
    let x = c.scale.new.xs in
    let f = step_of a.numbers.now ref a.e in
    let g : ℕ → ℕ = λ j. f (i + j) in
    let xs = steps_part a.numbers.now ref a.e i m m l.xs x refl t.inside (omega (arith, t.most, c.scale.auto.xs))
    (c.scale.ensures ∙ ap (λ (z : List ℤ). steps_into z ref a.e l.xs) t.here) in
    let q = subst (λ (y : ℕ). Passed a.bits (gathered (mark_of a.marks.now) v y) a.out.now l.progress l.held l.out) t.before l.invariant.passed in
    let r = block_more a.bits a.marks.now v N (omega (arith, c.requires.bits_le_bits_most)) p.value a.out.now (present-room a.bits a.marks.now v N (length a.out.now) p.mark c.requires.bits_in_bounds)
    i m (take m x) (ap length xs ∙ length-tab g m) t.most t.inside (omega (arith, long))
    (λ j h o. ap (λ (y : List ℕ). get_or y j 0) xs ∙ get_or-tab g m j 0 h
    ∙ scaled-present a.numbers.now a.marks.now ref a.e (i + j) (omega (arith, t.inside)) o)
    l.progress l.held l.out l.invariant.few q _ c.put_block-progress.ensures.value _
    c.put_block-progress.ensures.held_after _ c.put_block-progress.ensures.out_after in
    record {
      left = w.1;
      few = r.0;
      passed = subst (λ (y : ℕ). Passed a.bits (gathered (mark_of a.marks.now) v y) a.out.now c.put_block-progress.result c.put_block-progress.new.held c.put_block-progress.new.out)
          (sym t.after) r.1;
    }

pub returns : goal.returns
returns c =
    let l = c.loop-b in
    let a = c.args in
    let ref = to_z w32 (of_z w32 a.r) in
    let p = listed_back a.numbers.now a.marks.now a.r a.e (search rules) a.bits c.requires.listed in
    let N = length a.numbers.now in
    let v = value_of (scaled_from a.numbers.now a.marks.now ref a.e) in
    let e = left_none _ _ _ _ l.invariant.left c.in-None.ensures.steps.0.1.0 in
    last-all a.bits a.marks.now v N (omega (arith, c.requires.bits_le_bits_most)) p.value a.out.now
    (present-room a.bits a.marks.now v N (length a.out.now) p.mark c.requires.bits_in_bounds)
    l.progress l.held l.out l.invariant.few
    (subst (λ (x : ℕ). Passed a.bits (gathered (mark_of a.marks.now) v x) a.out.now l.progress l.held
    l.out) e l.invariant.passed) _ c.put_last.ensures.out_after
    ∙ packed-back a.numbers.now a.marks.now a.r a.e (search rules) a.bits N a.out.now
