-- The packer below, of the form that the record stands for.
use mir.Facts.{to_z-of_z}
use Rattle.grib1.proofs.Made.{pack_made}
use Rattle.grib1.proofs.grib1_pack.Goals as goal

pub returns : goal.returns
returns c = let t =
    pack_made _ _ _ _ _ _ _ _ _ c.form_by.ensures
    (to_z-of_z c.ranges.d) _
    c.pack.ensures.value _ c.pack.ensures.out_after _
    c.written_record.ensures in record { value = t.0; out_after = t.1 }
