-- The present values taken to the front and spread to their points, then the marks: the loops' promises in turn.
use Rattle.field.proofs.Loops.{some-values, some-marks}
use Rattle.field.proofs.lists.some_present.Goals as goal

pub returns : goal.returns
returns c =
    let p = c.requires in
    record {
      values_after = some-values _ _ _ _ _ _ _ _ _ p.bits_bound p.m_value p.n_in_bounds_2 c.take_all.ensures.out_after c.spread.ensures;
      marks_after = some-marks _ _ _ _ c.fill.ensures.marks_after;
    }
