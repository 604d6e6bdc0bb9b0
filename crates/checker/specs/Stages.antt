-- The checker's rows after those of the message itself: "then 18, 15, 16, 17".
use Rattle.std.specs.Prelude.{List, [], ◌∷◌, ℕ}
use Rattle.rules.specs.Table.{Row, row, any_of}
use Rattle.rules.specs.Bitmap.{Lent}
use Rattle.rules.specs.Reading.{the_scale_in}
use Rattle.rules.specs.Checking.{Source, source_faults, source_differs, scale_faults, point_out}

unfoldable pub check_rows : List ℕ → Lent → Source → List Row
check_rows s lent f =
    row 18 (any_of (source_faults f)) ∷ row 15 (any_of (source_differs s lent f)) ∷ row 16 (any_of (scale_faults (the_scale_in s)))
    ∷ row 17 (point_out s lent f) ∷ []
