-- The display below, as a record.
use Rattle.std.proofs.Common.{◌∙◌, ap}
use Rattle.records.specs.Records.{the_display_record}
use Rattle.grib1.proofs.Answered.{display-is}
use Rattle.grib1.proofs.grib1_display.Goals as goal

pub returns : goal.returns
returns c = c.display_record.ensures ∙ ap the_display_record (display-is _ _ _ c.display.ensures)
