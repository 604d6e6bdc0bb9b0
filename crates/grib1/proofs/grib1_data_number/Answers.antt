-- The answer below, as a record.
use mathlib.Core.Path.{◌∙◌, ap}
use Rattle.point_records.specs.Records.{the_data_record}
use Rattle.grib1.proofs.grib1_data_number.Goals as goal

pub returns : goal.returns
returns c = c.data_record.ensures ∙ ap the_data_record c.data_number.ensures
