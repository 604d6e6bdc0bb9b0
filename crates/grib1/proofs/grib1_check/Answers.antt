-- The reply below, as a record.
use mir.Facts.{to_z-of_z}
use Rattle.grib1.proofs.Made.{check-made}
use Rattle.grib1.proofs.grib1_check.Goals as goal

pub returns : goal.returns
returns c =
    check-made _ _ _ _ _ _ (to_z-of_z c.ranges.d) _ c.check.ensures
    _ c.check_record.ensures
