-- The shape's two cases, of a place inside.
use Rattle.chart.proofs.Laws.{inside, among}
use Rattle.chart.proofs.point_on.Goals as goal

pub point-requires : goal.point-requires
point-requires c =
    let t = inside _ _ c.in-Even.is _ c.requires.row_bound c.requires.column_bound in
    record { row_lt_nj = t.0; column_lt_ni = t.1 }

pub point_among-requires : goal.point_among-requires
point_among-requires c =
    let t = among _ _ c.in-Uneven.is _ c.requires.row_bound c.requires.column_bound in
    record { row_in_bounds = t.0; column_bound = t.1 }
