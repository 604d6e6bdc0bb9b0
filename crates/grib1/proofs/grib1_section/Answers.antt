-- The part below, as a record.
use mathlib.Core.Path.{◌∙◌, ap}
use Rattle.records.specs.Records.{the_part_record}
use Rattle.grib1.proofs.grib1_section.Goals as goal

pub returns : goal.returns
returns c = c.part_record.ensures ∙ ap the_part_record c.section_part.ensures
