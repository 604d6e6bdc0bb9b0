-- A block that fits is gathered after what is held, and settled (law block-done); another leaves all as it was.
use native.Mathlib.Omega.{arith}
use mathlib.Core.Path.{sym, ap, ◌∙◌}
use Prim.Native.Nat.{◌-◌}
use lib.ListN.{length}
use Rattle.gathering.proofs.Here.{fits_said}
use Rattle.blocks.proofs.Fitting.{fits-room, fits-held, fits-place, fits-gather}
use Rattle.blocks.proofs.Parts.{part-counted, part-gathered, with-few, length-with}
use Rattle.blocks.proofs.Settled.{block-done}
use Rattle.blocks.proofs.put_block.Goals as goal

pub offset_bounds-held-c : goal.offset_bounds-held-c
offset_bounds-held-c c =
    let a = c.args in
    let f = sym c.fits.ensures ∙ c.if-fits.true in
    let h = fits-held (length a.values.now) (length a.marks.now) a.at (length a.held.now) a.progress (length a.out.now) f in
    omega arith

pub slice_bounds-gather-count : goal.slice_bounds-gather-count
slice_bounds-gather-count c =
    let a = c.args in
    let f = sym c.fits.ensures ∙ c.if-fits.true in
    let h = fits-held (length a.values.now) (length a.marks.now) a.at (length a.held.now) a.progress (length a.out.now) f in
    let r = fits-room (length a.values.now) (length a.marks.now) a.at (length a.held.now) a.progress (length a.out.now) f in
    omega arith

pub slice_bounds-gather-start : goal.slice_bounds-gather-start
slice_bounds-gather-start c =
    let a = c.args in
    let f = sym c.fits.ensures ∙ c.if-fits.true in
    let h = fits-held (length a.values.now) (length a.marks.now) a.at (length a.held.now) a.progress (length a.out.now) f in
    let r = fits-room (length a.values.now) (length a.marks.now) a.at (length a.held.now) a.progress (length a.out.now) f in
    omega arith

pub overflow_add-c : goal.overflow_add-c
overflow_add-c c =
    let a = c.args in
    let f = sym c.fits.ensures ∙ c.if-fits.true in
    let h = fits-held (length a.values.now) (length a.marks.now) a.at (length a.held.now) a.progress (length a.out.now) f in
    let r = fits-room (length a.values.now) (length a.marks.now) a.at (length a.held.now) a.progress (length a.out.now) f in
    let g = fits-gather (length a.values.now) (length a.marks.now) a.at (length a.held.now) a.progress (length a.out.now) f in
    let s = fits_said (length a.values.now) (length a.held.now - a.progress.held) a.at (length a.marks.now) g in
    let e = part-counted a.values.now a.marks.now a.at a.progress.held a.held.now g _ c.gather-more.ensures.value in
    let m = with-few a.values.now a.marks.now a.at a.progress.held in
    omega (arith, e, m, s.0, h, r)

pub settle-requires : goal.settle-requires
settle-requires c =
    let a = c.args in
    let f = sym c.fits.ensures ∙ c.if-fits.true in
    let g = fits-gather (length a.values.now) (length a.marks.now) a.at (length a.held.now) a.progress (length a.out.now) f in
    let e = part-gathered a.values.now a.marks.now a.at a.progress.held a.held.now g _ c.gather-more.ensures.held_after in (
      ap length e ∙ length-with a.values.now a.marks.now a.at a.progress.held a.held.now
          ∙ fits-room (length a.values.now) (length a.marks.now) a.at (length a.held.now) a.progress (length a.out.now) f,
      fits-place (length a.values.now) (length a.marks.now) a.at (length a.held.now) a.progress (length a.out.now) f,
    )

pub returns-then-fits : goal.returns-then-fits
returns-then-fits c =
    let a = c.args in
    let f = sym c.fits.ensures ∙ c.if-fits.true in
    let g = fits-gather (length a.values.now) (length a.marks.now) a.at (length a.held.now) a.progress (length a.out.now) f in
    let t =
    block-done a.values.now a.marks.now a.at a.bits a.held.now a.progress a.out.now f
    _ (part-counted a.values.now a.marks.now a.at a.progress.held a.held.now g _ c.gather-more.ensures.value)
    _ (part-gathered a.values.now a.marks.now a.at a.progress.held a.held.now g _ c.gather-more.ensures.held_after)
    _ c.settle.ensures.value _ c.settle.ensures.held_after _ c.settle.ensures.out_after in
    record { value = t.0; held_after = t.1.0; out_after = t.1.1 }
