-- Of a table of refusals: that it accepts; and the reader's in the groups that code judges.
use Rattle.std.specs.Prelude.{ℕ, ◌≡◌, false, List, [], ◌∷◌, ◌++◌}
use Rattle.rules.specs.Table.{Row, given, row}
use Rattle.rules.specs.Places.{places_of}
use Rattle.rules.specs.Bitmap.{Lent}
use Rattle.rules.specs.Values.{the_length_bad}
use Rattle.rules.specs.Reading.{present_count, packing_in, parsed_of, message_table}
use Rattle.laws.specs.Groups.{earlier_rows}

-- no row of a table applies
abbrev pub Clear : List Row → Type 0
Clear [] = Unit
Clear (given r test ∷ rows) = (test ≡ false) × Clear rows

-- the reader's table is its groups over what was read, rows 1 to 6, 7 to 9, 10 and 11, and then row 12, which asks how
-- many points are present
abbrev pub RowsInGroups : Type 0
RowsInGroups =
    (s : List ℕ) (lent : Lent)
    → message_table s lent ≡ earlier_rows s lent (parsed_of s)
    ++ (row 12 (the_length_bad s (places_of s).bds (present_count s lent) (packing_in s)) ∷ [])
