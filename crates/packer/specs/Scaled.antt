-- The values that the packer puts: X at each point of a source, for an R and an E.
use Rattle.std.specs.Prelude.{ℕ, cond, List, [], ◌∷◌, eqb, ℤ, pos, nat_abs, ◌-ℤ◌, length, get_or}
use Rattle.bits.specs.Tables.{tab}
use Rattle.rules.specs.Bitmap.{mark_of}
use Rattle.rules.specs.declared.{Packing.Packing}
use Rattle.rules.specs.Numbers.{decimal_at}
use Rattle.rules.specs.Table.{Row, row, any_of}
use Rattle.rules.specs.Values.{packing_faults}
use Rattle.rules.specs.Writing.{pds_faults}
use Rattle.rules.specs.Checking.{Source, source_faults, the_decimal_differs}
use Rattle.rules.specs.Packing.{stepped}

-- X of a number that is marked
abbrev pub scaled_by : ℤ → ℕ → ℤ → ℕ → ℕ
scaled_by v mark r e = cond (eqb mark 1) (stepped e (nat_abs (v -ℤ r))) 0

-- the list of X
unfoldable pub scaled_from : List ℤ → List ℕ → ℤ → ℕ → List ℕ
scaled_from numbers marks r e = tab (λ i. scaled_by (get_or numbers i (pos 0)) (mark_of marks i) r e) (length numbers)

-- 5, 18, 15 and 11
unfoldable pub pack_rows : List ℕ → Packing → Source → List Row
pack_rows pds packing f =
    row 5 (any_of (pds_faults pds))
    ∷ row 18 (any_of (source_faults f))
    ∷ row 15 (the_decimal_differs (decimal_at pds 0).value f.d)
    ∷ row 11 (any_of (packing_faults packing))
    ∷ []
