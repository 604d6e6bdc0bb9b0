-- Document 01, "Points and the chart", and document 02, R-1: the row and column of a grid point and back, over the
-- shape of a grid alone.
use Rattle.std.specs.Prelude.{ℕ, ◌+◌, ◌-◌, ◌*◌, ◌/◌, ◌%◌, Bool, ◌&&◌, cond, List, ltb, length, get_or, None, Option}
use Rattle.std.specs.Prelude.{Some}
use Rattle.rules.specs.declared.{Shape.Shape, Shape.TheVariants.Even, Shape.TheVariants.Uneven, Grid.Grid}
use Rattle.rules.specs.declared.{GridPoint.GridPoint, Spot.Spot}
use Rattle.rules.specs.Numbers.{bit}
use Rattle.rules.specs.Counts.{total, row_of, in_row, the_before_row, counts_of}

-- "Scanning bit 1 set: columns run west"
abbrev pub west : ℕ → Bool
west scan = bit 1 scan

-- "Bit 2 set: rows run north"
abbrev pub north : ℕ → Bool
north scan = bit 2 scan

-- "Bit 3 set: points of one column are consecutive, else of one row"
abbrev pub by_column : ℕ → Bool
by_column scan = bit 3 scan

-- a count of n counted from the other end where the direction is turned; its own way back
unfoldable pub turned : Bool → ℕ → ℕ → ℕ
turned turn n i = cond turn (n - 1 - i) i

-- "The chart's row 0 is north and column 0 is west, by these flags": of a rectangle of Ni columns and Nj rows
unfoldable pub spot_of : ℕ → ℕ → ℕ → ℕ → Spot
spot_of ni nj scan k = record {
  row = turned (north scan) nj (cond (by_column scan) (k % nj) (k / ni));
  column = turned (west scan) ni (cond (by_column scan) (k / nj) (k % ni));
}

unfoldable pub point_of : ℕ → ℕ → ℕ → Spot → ℕ
point_of ni nj scan c =
    let j = turned (north scan) nj c.row in
    let i = turned (west scan) ni c.column in
    cond (by_column scan) (i * nj + j) (j * ni + i)

-- R-1: "A place is then a row and a position in that row", of rows of these counts: bit 2 says which row is north, bit
-- 1 which end of a row is west, each row by its own count
unfoldable pub the_spot_among : List ℕ → ℕ → ℕ → Spot
the_spot_among counts scan k = record {
  row = turned (north scan) (length counts) (row_of counts k);
  column = turned (west scan) (get_or counts (row_of counts k) 0) (in_row counts k);
}

-- how many points chart row r has; a row outside the chart has none
unfoldable pub across : List ℕ → ℕ → ℕ → ℕ
across counts scan r = cond (ltb r (length counts)) (get_or counts (turned (north scan) (length counts) r) 0) 0

unfoldable pub the_point_among : List ℕ → ℕ → Spot → ℕ
the_point_among counts scan c =
    the_before_row counts (turned (north scan) (length counts) c.row)
    + turned (west scan) (across counts scan c.row) c.column

-- what a shape has: points, "n = Ni × Nj" or "the sum of the counts"; rows; the points of each chart row; and the
-- columns that are listed, "The listing's columns are then 0"
unfoldable pub the_points_on : Shape → ℕ
the_points_on (Even q) = q.ni * q.nj
the_points_on (Uneven u) = total (counts_of u.start)

unfoldable pub the_rows_on : Shape → ℕ
the_rows_on (Even q) = q.nj
the_rows_on (Uneven u) = length (counts_of u.start)

unfoldable pub the_row_long : Shape → ℕ → ℕ
the_row_long (Even q) r = cond (ltb r q.nj) q.ni 0
the_row_long (Uneven u) r = across (counts_of u.start) u.scan r

unfoldable pub the_columns_on : Shape → ℕ
the_columns_on (Even q) = q.ni
the_columns_on (Uneven u) = 0

-- the place of each of its points, and back
unfoldable pub the_spot_on : Shape → ℕ → Spot
the_spot_on (Even q) k = spot_of q.ni q.nj q.scan k
the_spot_on (Uneven u) k = the_spot_among (counts_of u.start) u.scan k

unfoldable pub the_point_on : Shape → Spot → ℕ
the_point_on (Even q) c = point_of q.ni q.nj q.scan c
the_point_on (Uneven u) c = the_point_among (counts_of u.start) u.scan c

-- a number that is no grid point's, and a place outside the chart, have a case of their own
unfoldable pub charted : Shape → GridPoint → Option Spot
charted g k = cond (ltb k.0 (the_points_on g)) (Some (the_spot_on g k.0)) None

unfoldable pub pointed : Shape → Spot → Option GridPoint
pointed g c =
    cond (ltb c.row (the_rows_on g) && ltb c.column (the_row_long g c.row))
    (Some (record { 0 = the_point_on g c })) None
