-- The answer below, as a record.
use Rattle.grib1.proofs.grib1_place.Goals as goal

pub returns : goal.returns
returns c =
    rw (
      c.place_record.ensures,
      c.spot_of.ensures,
      c.shape_of.ensures,
      c.grid_back.ensures,
    )
