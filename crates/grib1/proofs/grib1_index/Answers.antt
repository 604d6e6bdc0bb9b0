-- The answer below, as a record; the index is as it leaves it.
use Rattle.std.proofs.Common.{◌∙◌, ap}
use Rattle.records.specs.Records.{the_indexed_record}
use Rattle.grib1.proofs.Answered.{index-is}
use Rattle.grib1.proofs.grib1_index.Goals as goal

pub returns-clause-value : goal.returns-clause-value
returns-clause-value c =
    c.indexed_record.ensures ∙ ap the_indexed_record (index-is _ _ c.args.index.now _ c.fill.ensures.value)
