-- The answer below, as a record.
use Rattle.std.proofs.Common.{◌∙◌, ap}
use Rattle.records.specs.Records.{the_header_record}
use Rattle.grib1.proofs.Answered.{header-is}
use Rattle.grib1.proofs.grib1_header.Goals as goal

pub returns : goal.returns
returns c = c.header_record.ensures ∙ ap the_header_record (header-is _ _ _ c.header.ensures)
