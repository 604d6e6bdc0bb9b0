-- The record of a data point.
use mathlib.Core.Path.{◌≡◌}
use Prim.Native.Nat.{ℕ}
use Rattle.data_numbers.specs.declared.{DataPoint.DataPoint, Numbered.Numbered, Numbered.TheVariants.Present}
use Rattle.data_numbers.specs.Told.{told}
use Rattle.point_records.specs.declared.{DataRecord.DataRecord}
use Rattle.point_records.specs.Records.{the_data_record}

pub data_present : (n : Numbered) (d : DataPoint) (k : ℕ) → n ≡ Present d → k ≡ d.0
    → ◌≡◌ {A = DataRecord} (record { kind = 1; data_number = k }) (the_data_record (told n))
data_present n d k e q = rw (e, q)
