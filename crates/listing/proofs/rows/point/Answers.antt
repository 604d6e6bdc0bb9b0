-- Inside the chart there is a grid point (Cells).
use Rattle.listing.proofs.Cells.{point_at, never_off}
use Rattle.listing.proofs.rows.point.Goals as goal

pub returns-in-Some : goal.returns-in-Some
returns-in-Some c =
    point_at _ _ c.requires.row_bound c.requires.column_bound _ _ c.point_at-p.ensures
    c.in-Some.is

pub returns-in-None : goal.returns-in-None
returns-in-None c =
    absurd (never_off _ _ c.requires.row_bound c.requires.column_bound _ c.point_at-p.ensures c.in-None.is)
