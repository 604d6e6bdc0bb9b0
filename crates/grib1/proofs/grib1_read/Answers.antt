-- The answer below, as a record; the lists are as it leaves them.
use Rattle.std.proofs.Common.{◌∙◌, ap}
use Rattle.records.specs.Records.{the_header_record}
use Rattle.grib1.proofs.Answered.{read-is}
use Rattle.grib1.proofs.grib1_read.Goals as goal

pub returns-clause-value : goal.returns-clause-value
returns-clause-value c =
    let a = c.args in
    c.header_record.ensures ∙ ap the_header_record (read-is _ _ a.values.now a.marks.now _ c.read.ensures.value)
