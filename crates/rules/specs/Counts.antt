-- Document 02, R-1: rows of points, each with its own count. "A place is then a row and a position in that row .., and
-- n is the sum of the counts". Counts stand in message order; a rectangle scanned by rows is the case of equal counts.
use Rattle.std.specs.Prelude.{ℕ, zero, suc, ◌+◌, ◌-◌, cond, List, [], ◌∷◌, reverse, ltb}
use Rattle.rules.specs.declared.{Start.Start, Start.TheVariants.Equator, Start.TheVariants.Pole}
use Rattle.rules.specs.declared.{Start.TheVariants.Neither}

-- "n is the sum of the counts"
unfoldable pub total : List ℕ → ℕ
total [] = 0
total (c ∷ counts) = c + total counts

-- the row of point k, in message order, and its position there
unfoldable pub row_of : List ℕ → ℕ → ℕ
row_of [] k = 0
row_of (c ∷ counts) k = cond (ltb k c) 0 (suc (row_of counts (k - c)))

unfoldable pub in_row : List ℕ → ℕ → ℕ
in_row [] k = k
in_row (c ∷ counts) k = cond (ltb k c) k (in_row counts (k - c))

-- how many points stand before row j
unfoldable pub the_before_row : List ℕ → ℕ → ℕ
the_before_row [] j = 0
the_before_row (c ∷ counts) zero = 0
the_before_row (c ∷ counts) (suc j) = c + the_before_row counts j

-- document 003's table of an octant's rows, "from 73 points at the equator to 2 at the pole"
unfoldable pub the_from_equator : List ℕ
the_from_equator =
    73 ∷ 73 ∷ 73 ∷ 73 ∷ 73 ∷ 73 ∷ 73 ∷ 73 ∷ 72 ∷ 72 ∷ 72 ∷ 71 ∷ 71 ∷ 71 ∷ 70 ∷ 70 ∷ 69 ∷ 69 ∷ 68 ∷ 67 ∷ 67 ∷ 66 ∷ 65
    ∷ 65 ∷ 64 ∷ 63 ∷ 62 ∷ 61 ∷ 60 ∷ 60 ∷ 59 ∷ 58 ∷ 57 ∷ 56 ∷ 55 ∷ 54 ∷ 52 ∷ 51 ∷ 50 ∷ 49 ∷ 48 ∷ 47 ∷ 45 ∷ 44 ∷ 43 ∷ 42
    ∷ 40 ∷ 39 ∷ 38 ∷ 36 ∷ 35 ∷ 33 ∷ 32 ∷ 30 ∷ 29 ∷ 28 ∷ 26 ∷ 25 ∷ 23 ∷ 22 ∷ 20 ∷ 19 ∷ 17 ∷ 16 ∷ 14 ∷ 12 ∷ 11 ∷ 9 ∷ 8
    ∷ 6 ∷ 5 ∷ 3 ∷ 2 ∷ []

-- "37 to 40 are north, 41 to 44 south with the counts reversed"; counts that no octant has are none
unfoldable pub counts_of : Start → List ℕ
counts_of Equator = the_from_equator
counts_of Pole = reverse the_from_equator
counts_of Neither = []
