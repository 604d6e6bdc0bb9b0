-- Three looks at the lists, joined by the law points-split.
use Rattle.writable.proofs.Points.{points-split}
use Rattle.writable.proofs.points_bad.Goals as goal

pub returns : goal.returns
returns c =
    points-split _ _ _ _ _ c.requires _ _ _
    c.marks_off.ensures c.lost.ensures c.all_below.ensures
