-- The answer below, of the form that the record stands for.
use Rattle.grib1.proofs.Made.{length-made}
use Rattle.grib1.proofs.grib1_length.Goals as goal

pub returns : goal.returns
returns c =
    length-made _ _ _ _ _ c.form_by.ensures _ c.message_length.ensures _
    c.written_record.ensures
