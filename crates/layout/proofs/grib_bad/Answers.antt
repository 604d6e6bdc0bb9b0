-- Refusal 2: four octets, call by call.
use Rattle.rules.specs.Places.{the_grib_bad}
use Rattle.layout.proofs.grib_bad.Goals as goal

pub returns : goal.returns
unfolding the_grib_bad
returns c = rw c.four.ensures
