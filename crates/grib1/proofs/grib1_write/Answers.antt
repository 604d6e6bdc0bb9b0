-- The writer below, of the form and the scale that the records stand for.
use Rattle.std.proofs.Common.{◌∙◌, ap, ℤ}
use mir.Facts.{to_z-of_z}
use Rattle.records.specs.Forms.{the_scale_by}
use Rattle.grib1.proofs.Made.{write-made}
use Rattle.grib1.proofs.grib1_write.Goals as goal

pub returns : goal.returns
returns c =
    let e = c.scale_by-scale.ensures ∙ ap (λ (z : ℤ). the_scale_by z c.args.r) (to_z-of_z c.ranges.e) in
    let t =
    write-made _ _ _ _ _ _ _ _ _ _ _ c.form_by.ensures e _ c.write.ensures.value _ c.write.ensures.out_after _
    c.written_record.ensures in
    record { value = t.0; out_after = t.1 }
