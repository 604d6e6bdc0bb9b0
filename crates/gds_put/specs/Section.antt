-- A grid section put into lent octets: its fields in groups, where it fits, and what it leaves.
use Rattle.std.specs.Prelude.{ℕ, zero, suc, ◌+◌, ◌-◌, Bool, true, not, ◌&&◌, cond, List, [], ◌∷◌, ◌++◌, ltb, leb, length, get_or, None, Option, Some}
use Rattle.bits.specs.Bits.{placed}
use Rattle.rules.specs.declared.{Signed.Signed, Start.Start, Geometry.Geometry, Grid.Grid}
use Rattle.rules.specs.Counts.{counts_of}
use Rattle.rules.specs.Numbers.{Field, field, sign, signed_field, beyond}
use Rattle.rules.specs.Table.{any_of}
use Rattle.rules.specs.Columns.{Sort, carried, needed, distance, side, latitude, longitude, reserved, Column, Cell, Cells}
use Rattle.rules.specs.Columns.{all_ones}
use Rattle.rules.specs.Layouts.{columns}
use Rattle.rules.specs.Grid.{kind_of, cells_by}
use Rattle.rules.specs.Writing.{gds_for}

-- octets 1 to 6
abbrev pub top_fields : ℕ → ℕ → ℕ → List Field
top_fields len five six = field 3 len ∷ field 1 0 ∷ field 1 five ∷ field 1 six ∷ []

-- octets 7 to 17
abbrev pub front_fields : ℕ → ℕ → Signed → Signed → ℕ → List Field
front_fields ni nj la1 lo1 flags =
    field 2 ni ∷ field 2 nj ∷ signed_field 3 la1 ∷ signed_field 3 lo1 ∷ field 1 flags ∷ []

-- octets 18 to 32 of a latitude/longitude grid, and of a Gaussian one
abbrev pub edges_fields : Signed → Signed → ℕ → ℕ → ℕ → List Field
edges_fields la2 lo2 di dj scan =
    signed_field 3 la2 ∷ signed_field 3 lo2 ∷ field 2 di ∷ field 2 dj ∷ field 1 scan ∷ field 4 0 ∷ []

-- from octet 33 on, the counts of the first rows
unfoldable pub count_fields : Start → ℕ → List Field
count_fields f zero = []
count_fields f (suc rows) = count_fields f rows ++ (field 2 (get_or (counts_of f) rows 0) ∷ [])

-- octets 18 to 34 of a Mercator grid
abbrev pub cylinder_fields : Signed → Signed → Signed → ℕ → ℕ → ℕ → List Field
cylinder_fields la2 lo2 latin scan di dj =
    signed_field 3 la2
    ∷ signed_field 3 lo2
    ∷ signed_field 3 latin
    ∷ field 1 0
    ∷ field 1 scan
    ∷ field 3 di
    ∷ field 3 dj
    ∷ []

-- octets 18 to 28 of a Lambert or polar stereographic grid
abbrev pub plane_fields : Signed → ℕ → ℕ → ℕ → ℕ → List Field
plane_fields lov dx dy centre scan =
    signed_field 3 lov ∷ field 3 dx ∷ field 3 dy ∷ field 1 centre ∷ field 1 scan ∷ []

-- octets 29 to 42 of a Lambert grid
abbrev pub cone_fields : Signed → Signed → Signed → Signed → List Field
cone_fields latin1 latin2 la lo =
    signed_field 3 latin1 ∷ signed_field 3 latin2 ∷ signed_field 3 la ∷ signed_field 3 lo ∷ field 2 0 ∷ []

-- a cell that its octets do not hold, though its type does: a magnitude that would take the sign bit, a distance that is
-- too great; 9 leaves none
abbrev pub cell_unheld : (t : Sort) → ℕ → Cell t → List Bool
cell_unheld carried c x = []
cell_unheld needed c x = []
cell_unheld distance c x = ltb (all_ones c) x ∷ []
cell_unheld side c x = []
cell_unheld latitude c z = beyond (sign c - 1) z.value ∷ []
cell_unheld longitude c z = beyond (sign c - 1) z.value ∷ []
cell_unheld reserved c x = []

unfoldable pub cells_unheld : (cs : List Column) → Cells cs → List Bool
cells_unheld [] x = []
cells_unheld (c ∷ cs) x = cell_unheld c.sort c.width x.0 ++ cells_unheld cs x.1

-- of a geometry, and of a grid
abbrev pub unheld_by : Grid → Geometry → List Bool
unheld_by g x = cells_unheld (columns (kind_of x)) (cells_by g x)

unfoldable pub the_grid_unheld : Grid → List Bool
the_grid_unheld g = unheld_by g g.geometry

-- whether the octets of the grid that is given hold it
unfoldable pub the_found_holds : Option Grid → Bool
the_found_holds None = true
the_found_holds (Some g) = not (any_of (the_grid_unheld g))

-- a section that does not fit changes nothing
unfoldable pub gds_fits : List ℕ → ℕ → Option Grid → Bool
gds_fits out at f = the_found_holds f && leb (at + length (gds_for f)) (length out)

unfoldable pub the_gds_put : List ℕ → ℕ → Option Grid → List ℕ
the_gds_put out at f = cond (gds_fits out at f) (placed out at (gds_for f)) out
