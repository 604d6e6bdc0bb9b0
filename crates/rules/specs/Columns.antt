-- A grid section as a table of columns: where each stands, how many octets it has, and what is held there. Reading,
-- writing, row 9's bounds and what keeps a section from coming back follow from the table, for any kind of grid.
use Rattle.std.specs.Prelude.{ℕ, suc, ◌+◌, ◌-◌, ◌*◌, ◌^◌, Bool, not, ◌&&◌, cond, List, [], ◌∷◌, ◌++◌, ltb, eqb}
use Rattle.bits.specs.Bits.{bits_in, run}
use Rattle.rules.specs.declared.{Signed.Signed}
use Rattle.rules.specs.Bounds.{side_most, latitude_most, longitude_most}
use Rattle.rules.specs.Numbers.{Field, field, octet, sign, signed, spelled, not_within, beyond}

-- what is held in a column: a number "carried as read", one that may not be missing, a distance, Ni or Nj, a latitude,
-- a longitude, or nothing ("reserved, ignored on reading, written zero")
pub data Sort : Type 0 where
  carried needed distance side latitude longitude reserved : Sort

-- its first octet, counted from 1 in the section, and how many it has
pub record Column : Type 0 where
  pub first : ℕ
  pub width : ℕ
  pub sort : Sort

abbrev pub column : ℕ → ℕ → Sort → Column
column k c t = record { first = k; width = c; sort = t }

-- what a column holds, and what all of a table's columns hold
abbrev pub Cell : Sort → Type 0
Cell carried = ℕ
Cell needed = ℕ
Cell distance = ℕ
Cell side = ℕ
Cell latitude = Signed
Cell longitude = Signed
Cell reserved = Unit

abbrev pub Cells : List Column → Type 0
Cells [] = Unit
Cells (c ∷ columns) = Cell c.sort × Cells columns

-- the number in the octets of a column, of a section at place g
abbrev pub column_at : Column → List ℕ → ℕ → ℕ
column_at c s g =
    cond (eqb c.width 1) (octet s g c.first) (run (bits_in 8 s) ((g + (c.first - 1)) * 8) (c.width * 8))

-- a number of c octets as the cell that it is read as, and a cell as the number that is written
abbrev pub cell_of : (t : Sort) → ℕ → ℕ → Cell t
cell_of carried c v = v
cell_of needed c v = v
cell_of distance c v = v
cell_of side c v = v
cell_of latitude c v = signed c v
cell_of longitude c v = signed c v
cell_of reserved c v = tt

abbrev pub cell_number : (t : Sort) → ℕ → Cell t → ℕ
cell_number carried c x = x
cell_number needed c x = x
cell_number distance c x = x
cell_number side c x = x
cell_number latitude c z = spelled c z
cell_number longitude c z = spelled c z
cell_number reserved c x = 0

-- the greatest number of c octets, "missing" where it stands: all ones
abbrev pub all_ones : ℕ → ℕ
all_ones c = 2 ^ (c * 8) - 1

-- 9, of one cell of c octets: "Ni, Nj, .. a latitude, a longitude .. outside the rules", "a missing Gaussian N"; and a
-- distance that its octets do not hold, which the writer alone can be given
abbrev pub cell_faults : (t : Sort) → ℕ → Cell t → List Bool
cell_faults carried c x = []
cell_faults needed c x = eqb x (all_ones c) ∷ []
cell_faults distance c x = ltb (all_ones c) x ∷ []
cell_faults side c x = not_within 1 side_most x ∷ []
cell_faults latitude c z = beyond latitude_most z.value ∷ []
cell_faults longitude c z = beyond longitude_most z.value ∷ []
cell_faults reserved c x = []

-- what keeps a column's octets from coming back: a reserved octet that is not zero, a minus zero
abbrev pub cell_stains : Sort → ℕ → ℕ → List Bool
cell_stains carried c v = []
cell_stains needed c v = []
cell_stains distance c v = []
cell_stains side c v = []
cell_stains latitude c v = eqb v (sign c) ∷ []
cell_stains longitude c v = eqb v (sign c) ∷ []
cell_stains reserved c v = not (eqb v 0) ∷ []

-- and so for all columns of a table
unfoldable pub cells_at : (columns : List Column) → List ℕ → ℕ → Cells columns
cells_at [] s g = tt
cells_at (c ∷ columns) s g = (cell_of c.sort c.width (column_at c s g), cells_at columns s g)

unfoldable pub cells_fields : (columns : List Column) → Cells columns → List Field
cells_fields [] x = []
cells_fields (c ∷ columns) x = field c.width (cell_number c.sort c.width x.0) ∷ cells_fields columns x.1

unfoldable pub cells_faults : (columns : List Column) → Cells columns → List Bool
cells_faults [] x = []
cells_faults (c ∷ columns) x = cell_faults c.sort c.width x.0 ++ cells_faults columns x.1

unfoldable pub cells_stains : List Column → List ℕ → ℕ → List Bool
cells_stains [] s g = []
cells_stains (c ∷ columns) s g = cell_stains c.sort c.width (column_at c s g) ++ cells_stains columns s g

-- the columns follow one another from after octet j to octet n, none of them empty
unfoldable pub tiles : List Column → ℕ → ℕ → Bool
tiles [] j n = eqb j n
tiles (c ∷ columns) j n = ltb 0 c.width && (eqb c.first (suc j) && tiles columns (j + c.width) n)
