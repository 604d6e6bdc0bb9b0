use mathlib.Core.Path.{refl, sym, ap, ◌∙◌}
use native.Mathlib.Omega.{arith}
use borrow.Author.Rules.{rules}
use lib.Seq.{length-take-le}
use Rattle.bits.specs.Tables.{any_below}
use Rattle.bits.proofs.Below.{any_none}
use Rattle.gathering.proofs.Chunks.{left_all, none_before, chunk_turn}
use Rattle.source.specs.Present.{far as is_far}
use Rattle.source.proofs.Blocks.{gathered-chunk}
use Rattle.source.proofs.Field.{far-chunk}
use Rattle.source.proofs.present_large.Goals as goal

pub loop-b-init : goal.loop-b-init
loop-b-init c = record {
  left = left_all _ _ _ _ (search rules) (search rules) (search rules);
  room = refl;
  judged = any_none (is_far c.args.numbers.now c.args.marks.now)
      ∙ ap (any_below (is_far c.args.numbers.now c.args.marks.now)) (none_before _ _ (search rules));
}

pub slice_bounds-held-end : goal.slice_bounds-held-end
slice_bounds-held-end c =
    let l = c.loop-b in
    let t = chunk_turn _ _ _ _ _ _ _ _ _ l.invariant.left c.in-Some.ensures.steps in
    let g = gathered-chunk _ _ _ _ _ t.0 _ (omega (arith, c.requires)) _ _ _ l.invariant.room c.gather-m.ensures.value c.gather-m.ensures.held_after in
    omega (arith, g.1, l.invariant.room)

pub slice_bounds-any_large-end : goal.slice_bounds-any_large-end
slice_bounds-any_large-end c =
    let l = c.loop-b in
    let t = chunk_turn _ _ _ _ _ _ _ _ _ l.invariant.left c.in-Some.ensures.steps in
    let g = gathered-chunk _ _ _ _ _ t.0 _ (omega (arith, c.requires)) _ _ _ l.invariant.room c.gather-m.ensures.value c.gather-m.ensures.held_after in
    sym (length-take-le c.gather-m.result c.gather-m.new.held (omega (arith, g.1, l.invariant.room)))

pub loop-b-preserved : goal.loop-b-preserved
loop-b-preserved c =
    let a = c.args in
    let l = c.loop-b in
    let t = chunk_turn _ _ _ _ _ _ _ _ _ l.invariant.left c.in-Some.ensures.steps in
    let g = gathered-chunk _ _ _ _ _ t.0 _ (omega (arith, c.requires)) _ _ _ l.invariant.room c.gather-m.ensures.value c.gather-m.ensures.held_after in
    record {
      left = t.1;
      room = omega (arith, l.invariant.room);
      judged = far-chunk a.numbers.now a.marks.now _ _ _ _ t.0 _ _ g.0 _ _ l.invariant.judged
          (omega (arith, g.1, l.invariant.room)) c.any_large-far.ensures;
    }
