-- The part below, as a record.
use mathlib.Core.Path.{◌∙◌, ap}
use Rattle.handed_back.specs.declared.{Force.Force}
use Rattle.records.specs.Records.{part_by}
use Rattle.grib1.proofs.grib1_bitmap.Goals as goal

pub returns : goal.returns
returns c = c.force_record.ensures ∙ ap (λ (f : Force). part_by f.stored f.part) c.force_part.ensures
