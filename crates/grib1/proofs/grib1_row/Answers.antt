-- The answer below.
use Rattle.grib1.proofs.grib1_row.Goals as goal

pub returns : goal.returns
returns c =
    rw (
      c.row_long.ensures,
      c.shape_of.ensures,
      c.grid_back.ensures,
    )
