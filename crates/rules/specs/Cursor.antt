-- Document 02, R-6: the value or absence at one place of the chart, by an index of the ones before each group of grid
-- points. The ones are those of the bitmap in force; "With no bitmap every point counts as a one", as `present_in` has
-- it.
use Rattle.std.specs.Prelude.{ℕ, ◌+◌, ◌-◌, ◌*◌, ◌/◌, ◌%◌, Bool, true, false, not, cond, List, [], ◌∷◌, ◌++◌, ltb, eqb}
use Rattle.std.specs.Prelude.{Err, None, Ok, Option, Result, Some}
use Rattle.std.specs.Prelude.{length, get_or}
use Rattle.rules.specs.declared.{Refusal.Refusal, Shape.Shape, Spot.Spot, Grid.Grid, GridPoint.GridPoint}
use Rattle.rules.specs.Answers.{Indexed}
use Rattle.bits.specs.Bits.{count}
use Rattle.bits.specs.Tables.{tab}
use Rattle.rules.specs.Bounds.{group_long}
use Rattle.rules.specs.Table.{Row, row, any_of, first, answered, filled}
use Rattle.rules.specs.Chart.{the_point_on, pointed}
use Rattle.rules.specs.Grid.{grid_or_zeros, shape_of}
use Rattle.rules.specs.Bitmap.{Lent}
use Rattle.rules.specs.Reading.{message_table, grid_of, points_in, present_in, present_count, data_in}

-- "each group of 256 grid points": how many groups n points make, which group point i is in, where group g begins, and
-- how many of n points it has: the last group has those that are left
unfoldable pub the_groups_for : ℕ → ℕ
the_groups_for n = (n + (group_long - 1)) / group_long

abbrev pub group_of : ℕ → ℕ
group_of i = i / group_long

abbrev pub group_start : ℕ → ℕ
group_start g = g * group_long

unfoldable pub the_group_size : ℕ → ℕ → ℕ
the_group_size n g = cond (ltb (group_start g + group_long) n) group_long (n - group_start g)

-- "the number of ones before each group", "the ones in that group", and "the ones before the place in that group"
unfoldable pub ones_before : (ℕ → ℕ) → ℕ → ℕ
ones_before present g = count present 0 (group_start g)

unfoldable pub ones_in : (ℕ → ℕ) → ℕ → ℕ → ℕ
ones_in present n g = count present (group_start g) (the_group_size n g)

unfoldable pub ones_up_to : (ℕ → ℕ) → ℕ → ℕ
ones_up_to present i = count present (group_start (group_of i)) (i % group_long)

-- "Keep, beside the message, the number of ones before each group of 256 grid points, filled once per message (14 if
-- too short)": the entries, the answer, which tells how many they are, and the lent list afterwards
unfoldable pub entries_in : List ℕ → Lent → List ℕ
entries_in s lent = tab (ones_before (present_in s lent)) (the_groups_for (points_in s))

unfoldable pub index_table : List ℕ → Lent → List ℕ → List Row
index_table s lent index = message_table s lent ++ (row 14 (ltb (length index) (the_groups_for (points_in s))) ∷ [])

unfoldable pub index_refusal : List ℕ → Lent → List ℕ → Refusal
index_refusal s lent index = first (index_table s lent index)

unfoldable pub index_of : List ℕ → Lent → List ℕ → Indexed
index_of s lent index =
    let r = index_refusal s lent index in
    record { refusal = r; entries = answered r (the_groups_for (points_in s)) 0 }

unfoldable pub the_index_after : List ℕ → Lent → List ℕ → List ℕ
the_index_after s lent index = filled (index_refusal s lent index) (entries_in s lent) index

-- a group's entry, and "the next entry (in the last group, m)", of n points of which m are present
abbrev pub entry_of : List ℕ → ℕ → ℕ
entry_of index g = get_or index g 0

unfoldable pub the_next_entry : List ℕ → ℕ → ℕ → ℕ → ℕ
the_next_entry index n m g = cond (ltb (g + 1) (the_groups_for n)) (entry_of index (g + 1)) m

-- 25, of a group with so many ones: "exactly when the index has fewer entries than groups, or the group's entry plus
-- the ones in that group isn't the next entry (in the last group, m) or is above m"
unfoldable pub index_faults : List ℕ → ℕ → ℕ → ℕ → ℕ → List Bool
index_faults index n m g ones =
    ltb (length index) (the_groups_for n)
    ∷ not (eqb (entry_of index g + ones) (the_next_entry index n m g))
    ∷ ltb m (entry_of index g + ones)
    ∷ []

-- the chart of a message, and 24: "a place outside the chart"
unfoldable pub shape_in : List ℕ → Shape
shape_in s = shape_of (grid_or_zeros (grid_of s))

abbrev pub off_chart : Option GridPoint → Bool
off_chart (Some k) = false
off_chart None = true

-- 25 of the group of grid point i
unfoldable pub index_bad : List ℕ → Lent → List ℕ → ℕ → Bool
index_bad s lent index i =
    let g = group_of i in
    any_of (index_faults index (points_in s) (present_count s lent) g (ones_in (present_in s lent) (points_in s) g))

-- "Refusals: the message's own, then 24 for a place outside the chart, then 25"
unfoldable pub cursor_table : List ℕ → Lent → List ℕ → Spot → List Row
cursor_table s lent index c =
    message_table s lent
    ++ (row 24 (off_chart (pointed (shape_in s) c))
    ∷ row 25 (index_bad s lent index (the_point_on (shape_in s) c))
    ∷ [])

unfoldable pub cursor_refusal : List ℕ → Lent → List ℕ → Spot → Refusal
cursor_refusal s lent index c = first (cursor_table s lent index c)

-- "the value is the one whose data number is its group's entry plus the ones before the place in that group"
unfoldable pub cursor_number : (ℕ → ℕ) → List ℕ → ℕ → ℕ
cursor_number present index i = entry_of index (group_of i) + ones_up_to present i

-- "the value or absence" of grid point i, and of a place
unfoldable pub under_at : List ℕ → Lent → List ℕ → ℕ → Result (Option ℕ) Refusal
under_at s lent index i =
    let present = present_in s lent in
    cond (eqb (present i) 1) (Ok (Some (get_or (data_in s lent) (cursor_number present index i) 0))) (Ok None)

unfoldable pub cursor_of : List ℕ → Lent → List ℕ → Spot → Result (Option ℕ) Refusal
cursor_of s lent index c =
    let r = cursor_refusal s lent index c in
    answered r (under_at s lent index (the_point_on (shape_in s) c)) (Err r)
