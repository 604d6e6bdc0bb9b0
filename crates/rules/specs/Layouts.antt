-- Document 01, "GDS"; document 02, R-1 and R-4, "with the layouts in document 003": the kinds of grid. A kind is a
-- table of columns, a length and octets 5 and 6. Reading, judging, writing and both round trips follow from the table.
use Rattle.std.specs.Prelude.{ℕ, zero, suc, ◌+◌, List, [], ◌∷◌}
use Rattle.rules.specs.Bounds.{gds_length, long_length, thinned_length, octant_rows}
use Rattle.rules.specs.Columns.{Sort, carried, needed, distance, side, latitude, longitude, reserved, Column}
use Rattle.rules.specs.Columns.{column}

pub data Kind : Type 0 where
  latlon thinned mercator lambert gaussian polar : Kind

-- octets 7 to 17, which every kind has: "Ni 7-8; Nj 9-10; La1 11-13; Lo1 14-16; resolution flags 17", Ni and Nj (Nx and
-- Ny) of a sort; and further columns
abbrev pub front_columns : Sort → List Column → List Column
front_columns t more =
    column 7 2 t
    ∷ column 9 2 t
    ∷ column 11 3 latitude
    ∷ column 14 3 longitude
    ∷ column 17 1 carried
    ∷ more

-- "La2 18-20; Lo2 21-23; Di 24-25; Dj 26-27; scanning flags 28; 29-32 reserved"; of a Gaussian grid N in the place of
-- Dj, "Mandatory"; and further columns
abbrev pub edges_columns : Sort → List Column → List Column
edges_columns t more =
    column 18 3 latitude
    ∷ column 21 3 longitude
    ∷ column 24 2 carried
    ∷ column 26 2 t
    ∷ column 28 1 carried
    ∷ column 29 4 reserved
    ∷ more

-- R-1: "octets 33-178 list the row counts": so many counts of two octets each, from octet k on
abbrev pub count_columns : ℕ → ℕ → List Column
count_columns k zero = []
count_columns k (suc rows) = column k 2 carried ∷ count_columns (k + 2) rows

-- Mercator: La2 18-20, Lo2 21-23, Latin 24-26, 27 reserved, scanning flags 28, Di 29-31, Dj 32-34, 35-42 reserved
abbrev pub cylinder_columns : List Column
cylinder_columns =
    column 18 3 latitude
    ∷ column 21 3 longitude
    ∷ column 24 3 latitude
    ∷ column 27 1 reserved
    ∷ column 28 1 carried
    ∷ column 29 3 distance
    ∷ column 32 3 distance
    ∷ column 35 8 reserved
    ∷ []

-- Lambert and polar: LoV 18-20, Dx 21-23, Dy 24-26, projection centre flag 27, scanning flags 28; and further columns
abbrev pub plane_columns : List Column → List Column
plane_columns more =
    column 18 3 longitude
    ∷ column 21 3 distance
    ∷ column 24 3 distance
    ∷ column 27 1 carried
    ∷ column 28 1 carried
    ∷ more

-- Lambert: Latin 1 29-31, Latin 2 32-34, latitude of the southern pole 35-37, its longitude 38-40, 41-42 reserved
abbrev pub cone_columns : List Column
cone_columns =
    column 29 3 latitude
    ∷ column 32 3 latitude
    ∷ column 35 3 latitude
    ∷ column 38 3 longitude
    ∷ column 41 2 reserved
    ∷ []

abbrev pub columns : Kind → List Column
columns latlon = front_columns side (edges_columns carried [])
columns thinned = front_columns carried (edges_columns carried (count_columns 33 octant_rows))
columns mercator = front_columns side cylinder_columns
columns lambert = front_columns side (plane_columns cone_columns)
columns gaussian = front_columns side (edges_columns needed [])
columns polar = front_columns side (plane_columns (column 29 4 reserved ∷ []))

-- "length 1-3 is 32", "GDS 42 octets for the first two, else 32", "The GDS is 178 octets"
abbrev pub length_by : Kind → ℕ
length_by latlon = gds_length
length_by thinned = thinned_length
length_by mercator = long_length
length_by lambert = long_length
length_by gaussian = gds_length
length_by polar = gds_length

-- "octet 5 is 255", "octet 5 is 33": where the counts begin, if there are any
abbrev pub fifth : Kind → ℕ
fifth latlon = 255
fifth thinned = 33
fifth mercator = 255
fifth lambert = 255
fifth gaussian = 255
fifth polar = 255

-- "octet 6 is 0"; of the others their numbers in document 003's table 6
abbrev pub sixth : Kind → ℕ
sixth latlon = 0
sixth thinned = 0
sixth mercator = 1
sixth lambert = 3
sixth gaussian = 4
sixth polar = 5

abbrev pub kinds : List Kind
kinds = latlon ∷ thinned ∷ mercator ∷ lambert ∷ gaussian ∷ polar ∷ []
