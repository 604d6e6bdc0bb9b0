-- The answer below, as a record.
use Rattle.grib1.proofs.grib1_point.Goals as goal

pub returns : goal.returns
returns c =
    rw (
      c.point_record.ensures,
      c.point_at.ensures,
      c.shape_of.ensures,
      c.grid_back.ensures,
    )
