-- Each field as a number of the answer in `rules`.
use Rattle.rules.specs.Bitmap.{InForce}
use Rattle.rules.specs.Points.{Numbering, numbered, absent, outside}
use Rattle.records.specs.declared.{PartRecord.PartRecord}
use Rattle.records.specs.Records.{part_by}
use Rattle.point_records.specs.declared.{DataRecord.DataRecord}

abbrev pub the_force_record : InForce → PartRecord
the_force_record f = part_by f.stored f.part

-- what is said of a grid point: 1 and its data number, 2 where it is absent, 0 where there is no such point
abbrev pub the_data_record : Numbering → DataRecord
the_data_record outside = record { kind = 0; data_number = 0 }
the_data_record (numbered k) = record { kind = 1; data_number = k }
the_data_record absent = record { kind = 2; data_number = 0 }
