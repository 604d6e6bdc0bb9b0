-- The answer below, as a record.
use mathlib.Core.Path.{◌∙◌, ap}
use Rattle.records.specs.Records.{the_cursor_record}
use Rattle.grib1.proofs.grib1_cursor.Goals as goal

pub returns : goal.returns
returns c = c.cursor_record.ensures ∙ ap the_cursor_record c.under.ensures
