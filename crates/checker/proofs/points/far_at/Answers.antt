-- The X taken are the bits of the data (law far-held), and the place is after them: they fit; R is read back.
use mathlib.Core.Path.{◌≡◌, refl, ◌∙◌}
use mir.Facts.{to_z-of_z}
use Rattle.bitreader.proofs.Places.{all-reached}
use Rattle.checker.proofs.Far.{far-held}
use Rattle.checker.proofs.points.far_at.Goals as goal

pub unwrap-end-requires : goal.unwrap-end-requires
unwrap-end-requires c =
    let a = c.args in
    rw (c.take_all.ensures.value ∙ all-reached a.at a.n a.c _ c.requires.e_le_step_most.1 c.requires.c_in_bounds.1.0) refl

pub returns : goal.returns
returns c =
    let a = c.args in
    let e = c.take_all.ensures.value ∙ all-reached a.at a.n a.c _ c.requires.e_le_step_most.1 c.requires.c_in_bounds.1.0 in
    record {
      at_value = cc (e, c.unwrap-end.ensures);
      out_value = far-held a.s.now a.numbers.now _ a.held.now a.at a.n a.c _ _ a.e (to_z-of_z c.ranges.r)
          c.requires.e_le_step_most.1 c.requires.c_in_bounds.1.0 c.take_all.ensures.out_after _ c.few_far.ensures;
    }
