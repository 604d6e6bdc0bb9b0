use mathlib.Core.Path.{◌≡◌, refl, sym, ap, subst, ◌∙◌}
use mathlib.Core.Bool.{not}
use mathlib.Core.Logic.{◌⊎◌, inl, inr, ⊎_elim}
use Prim.Native.Nat.{ℕ, ◌<◌, ◌^◌}
use native.Mathlib.Omega.{arith}
use borrow.Author.Rules.{rules}
use lib.IntN.{pos}
use lib.Signed.{mag}
use lib.ListN.{length, get_or, take}
use lib.Seq.{length-take-le}
use mir.Syntax.{w32}
use mir.Val.{to_z}
use mir.Facts.{to_z-of_z}
use Rattle.bits.proofs.Runs.{lt_or_ge}
use Rattle.gathering.proofs.Chunks.{left_all, left_none, none_before, chunk_turn}
use Rattle.rules.specs.Bitmap.{mark_of}
use Rattle.marks.specs.Marks.{the_none_marked}
use Rattle.source.proofs.Blocks.{gathered-chunk}
use Rattle.scaling.specs.Spread.{lesser_of, greater_of, lowest_in, floor, Highest}
use Rattle.scaling.proofs.Walked.{lowest-none, lowest-in, lowest-out, lowest-whole, highest_none, highest_in, highest_out}
use Rattle.scaling.proofs.Walked.{highest_whole}
use Rattle.scaling.proofs.Folded.{fold_chunk}
use Rattle.scaling.proofs.walk.Goals as goal

pub loop-b-init : goal.loop-b-init
loop-b-init c =
    let a = c.args in
    let z = none_before _ (length (take c.min-n.result a.numbers.now)) (search rules) in
    record {
      left = left_all _ _ _ _ (search rules) (search rules) (search rules);
      room = refl;
      low = lowest-none a.numbers.now a.marks.now ∙ ap (lowest_in a.numbers.now a.marks.now) z;
      high = subst (λ (x : ℕ). Highest a.numbers.now a.marks.now x floor) z (highest_none a.numbers.now a.marks.now);
    }

pub slice_bounds-held-end : goal.slice_bounds-held-end
slice_bounds-held-end c =
    let l = c.loop-b in
    let n = length-take-le c.min-n.result c.args.numbers.now (omega arith) in
    let t = chunk_turn _ _ _ _ _ _ _ _ _ l.invariant.left c.in-Some.ensures.steps in
    let g = gathered-chunk _ _ _ _ _ t.0 c.args.marks.now (omega (arith, n)) _ _ _ l.invariant.room c.gather-m.ensures.value c.gather-m.ensures.held_after in
    omega (arith, g.1, l.invariant.room)

pub slice_bounds-least_of-end : goal.slice_bounds-least_of-end
slice_bounds-least_of-end c =
    let l = c.loop-b in
    let n = length-take-le c.min-n.result c.args.numbers.now (omega arith) in
    let t = chunk_turn _ _ _ _ _ _ _ _ _ l.invariant.left c.in-Some.ensures.steps in
    let g = gathered-chunk _ _ _ _ _ t.0 c.args.marks.now (omega (arith, n)) _ _ _ l.invariant.room c.gather-m.ensures.value c.gather-m.ensures.held_after in
    sym (length-take-le c.gather-m.result c.gather-m.new.held (omega (arith, g.1, l.invariant.room)))

pub slice_bounds-held-end-in-loop-b : goal.slice_bounds-held-end-in-loop-b
slice_bounds-held-end-in-loop-b c =
    let l = c.loop-b in
    let n = length-take-le c.min-n.result c.args.numbers.now (omega arith) in
    let t = chunk_turn _ _ _ _ _ _ _ _ _ l.invariant.left c.in-Some.ensures.steps in
    let g = gathered-chunk _ _ _ _ _ t.0 c.args.marks.now (omega (arith, n)) _ _ _ l.invariant.room c.gather-m.ensures.value c.gather-m.ensures.held_after in
    omega (arith, g.1, l.invariant.room)

pub slice_bounds-greatest_of-end : goal.slice_bounds-greatest_of-end
slice_bounds-greatest_of-end c =
    let l = c.loop-b in
    let n = length-take-le c.min-n.result c.args.numbers.now (omega arith) in
    let t = chunk_turn _ _ _ _ _ _ _ _ _ l.invariant.left c.in-Some.ensures.steps in
    let g = gathered-chunk _ _ _ _ _ t.0 c.args.marks.now (omega (arith, n)) _ _ _ l.invariant.room c.gather-m.ensures.value c.gather-m.ensures.held_after in
    sym (length-take-le c.gather-m.result c.gather-m.new.held (omega (arith, g.1, l.invariant.room)))

pub loop-b-preserved : goal.loop-b-preserved
loop-b-preserved c =
    let l = c.loop-b in
    let a = c.args in
    let numbers = a.numbers.now in
    let marks = a.marks.now in
    let n = length-take-le c.min-n.result c.args.numbers.now (omega arith) in
    let t = chunk_turn _ _ _ _ _ _ _ _ _ l.invariant.left c.in-Some.ensures.steps in
    let g = gathered-chunk _ _ _ _ _ t.0 c.args.marks.now (omega (arith, n)) _ _ _ l.invariant.room c.gather-m.ensures.value c.gather-m.ensures.held_after in
    let low = to_z-of_z {w = w32} {z = c.least_of-low.result} (search rules) in
    let high = to_z-of_z {w = w32} {z = c.greatest_of-high.result} (search rules) in
    record {
      left = t.1;
      room = omega (arith, l.invariant.room);
      low = fold_chunk numbers marks c.min-n.result _ _ _ _ t.0 (omega arith) _ _ g.0 (omega (arith, g.1, l.invariant.room)) lesser_of (λ _. Unit)
          (λ k w. w ≡ lowest_in numbers marks k)
          (λ k w here _ p. lowest-in (mark_of marks) (λ i. get_or numbers i (pos 0)) k w here p)
          (λ k w absent p. lowest-out (mark_of marks) (λ i. get_or numbers i (pos 0)) k w absent p)
          _ _ (low ∙ c.least_of-low.ensures) (λ _ _. tt) l.invariant.low;
      high = fold_chunk numbers marks c.min-n.result _ _ _ _ t.0 (omega arith) _ _ g.0 (omega (arith, g.1, l.invariant.room)) greater_of
          (λ z. mag z < 2 ^ 31) (λ k w. Highest numbers marks k w)
          (λ k w here b p. highest_in numbers marks k w p b here)
          (λ k w absent p. highest_out numbers marks k w p absent)
          _ _ (high ∙ c.greatest_of-high.ensures.value) c.greatest_of-high.ensures.by_index l.invariant.high;
    }

pub returns-then-none_marked : goal.returns-then-none_marked
unfolding the_none_marked
returns-then-none_marked c = ap not (sym c.none_marked.ensures ∙ c.if-none_marked.true)

pub returns : goal.returns
unfolding the_none_marked
returns c =
    let l = c.loop-b in
    let a = c.args in
    let n = c.min-n.result in
    let e = left_none _ _ _ _ l.invariant.left c.in-None.ensures.steps.0.1.0 ∙ length-take-le n a.numbers.now (omega arith) in
    let ends : (n ≡ length a.numbers.now) ⊎ (n ≡ length a.marks.now) = ⊎_elim (λ h. inl (omega arith)) (λ h. inr (omega arith)) (lt_or_ge (length a.numbers.now) (length a.marks.now)) in
    let low = subst (λ (x : ℕ). to_z w32 l.low-bits ≡ lowest_in a.numbers.now a.marks.now x) e l.invariant.low in
    let high = subst (λ (x : ℕ). Highest a.numbers.now a.marks.now x (to_z w32 l.high-bits)) e l.invariant.high in (
      ap not (sym c.none_marked.ensures ∙ c.if-none_marked.false),
      (
        lowest-whole a.numbers.now a.marks.now n _ (omega arith) ends _ low,
        highest_whole a.numbers.now a.marks.now n _ (omega arith) ends _ high,
      ),
    )
