-- The reader's table in groups, as code judges it: rows 1 to 11 over what was read before, the walk's 20 to 23 among
-- them, in three. That they are the table, with row 12 after them, is the law RowsInGroups. Each test can be judged
-- once those above it have passed: then none reads past its section.
use Rattle.std.specs.Prelude.{ℕ, ◌&&◌, List, [], ◌∷◌, ◌++◌, Option}
use Rattle.rules.specs.declared.{Part.Part, Places.Places, Bitmap.Bitmap, Packing.Packing, Parsed.Parsed, Grid.Grid}
use Rattle.rules.specs.Table.{Row, row, any_of}
use Rattle.rules.specs.Places.{pds_start, the_has_grid, the_size_bad, the_grib_bad, the_edition_bad, total_faults}
use Rattle.rules.specs.Walk.{walk_of}
use Rattle.rules.specs.Time.{time_faults}
use Rattle.rules.specs.Grid.{the_grid_missing, grid_or_zeros, the_gds_bad, grid_faults}
use Rattle.rules.specs.Bitmap.{Lent, bitmap_faults}
use Rattle.rules.specs.Values.{packing_faults}

-- rows 1 to 4, the walk, and row 6
unfoldable pub layout_rows : List ℕ → List Row
layout_rows s =
    row 1 (the_size_bad s)
    ∷ row 2 (the_grib_bad s)
    ∷ row 3 (the_edition_bad s)
    ∷ row 4 (any_of (total_faults s))
    ∷ walk_of s ++ (row 6 (any_of (time_faults s pds_start)) ∷ [])

-- rows 7 to 9
unfoldable pub grid_rows : List ℕ → Places → Option Grid → List Row
grid_rows s p found =
    row 7 (the_grid_missing found)
    ∷ row 8 (the_has_grid s pds_start && the_gds_bad s p.gds)
    ∷ row 9 (any_of (grid_faults (grid_or_zeros found)))
    ∷ []

-- rows 10 and 11
unfoldable pub data_rows : List ℕ → Lent → Part → Bitmap → ℕ → Packing → List Row
data_rows s lent bms bitmap n packing =
    row 10 (any_of (bitmap_faults s lent bms bitmap n))
    ∷ row 11 (any_of (packing_faults packing))
    ∷ []

-- rows 1 to 11, with those of the walk: all but the one that asks how many points are present
unfoldable pub earlier_rows : List ℕ → Lent → Parsed → List Row
earlier_rows s lent q =
    layout_rows s
    ++ (grid_rows s q.places q.found ++ data_rows s lent q.places.bms q.bitmap q.points q.packing)
