-- The writer's table in groups that code judges one after another, each over what it uses.
use Rattle.std.specs.Prelude.{ℕ, Bool, not, ◌&&◌, ◌||◌, List, [], ◌∷◌, ◌++◌, ◌≡◌, ltb, eqb, length, Option}
use Rattle.rules.specs.declared.{Form.Form, Packing.Packing, Scale.Scale, Grid.Grid}
use Rattle.bits.specs.Tables.{tab, any_below}
use Rattle.rules.specs.Bounds.{exponent_most}
use Rattle.rules.specs.Numbers.{beyond}
use Rattle.rules.specs.Table.{Row, row, any_of}
use Rattle.rules.specs.Places.{the_has_grid, the_has_bitmap}
use Rattle.rules.specs.Time.{time_faults}
use Rattle.rules.specs.Grid.{the_grid_missing, grid_or_zeros, grid_faults}
use Rattle.rules.specs.Bitmap.{Lent, the_bitmap_given, mark_of, value_of, mark_odd}
use Rattle.rules.specs.Values.{packing_faults}
use Rattle.rules.specs.Writing.{pds_faults, lists_fit, stored_faults, the_grid_given, point_bad, differ}

-- what holds for any so many values: the rows before 13 ask of them only how many there are
abbrev pub ForAny : ℕ → (List ℕ → Type 0) → Type 0
ForAny long P = (values : List ℕ) → length values ≡ long → P values

-- 5, 6, 7 and 9: the PDS, and the grid found
unfoldable pub front_rows : List ℕ → Option Grid → List Row
front_rows pds found =
    row 5 (any_of (pds_faults pds))
    ∷ row 6 (any_of (time_faults pds 0))
    ∷ row 7 (the_grid_missing found)
    ∷ row 9 (any_of (grid_faults (grid_or_zeros found)))
    ∷ []

-- 11: E and the packing
unfoldable pub exponent_faults : Scale → Packing → List Bool
exponent_faults scale packing = beyond exponent_most scale.e.value ∷ packing_faults packing

-- 10 and 11, of n points
unfoldable pub middle_rows : Form → Scale → Lent → List ℕ → List ℕ → ℕ → List Row
middle_rows form scale lent values marks n =
    row 10 (any_of (stored_faults form.bitmap lent values marks n))
    ∷ row 11 (any_of (exponent_faults scale form.packing)) ∷ []

-- 13, at one of n points
abbrev pub any_bad : Bool → ℕ → List ℕ → List ℕ → ℕ → Bool
any_bad bitmap bits values marks n = any_below (λ i. point_bad bitmap bits (mark_of marks i) (value_of values i)) n

-- 13, of the marks and the points
unfoldable pub the_points_bad : Bool → ℕ → List ℕ → List ℕ → ℕ → Bool
the_points_bad bitmap bits values marks n = mark_odd marks n || any_bad bitmap bits values marks n

-- 13, of n points
unfoldable pub list_faults : List ℕ → Form → List ℕ → List ℕ → ℕ → List Bool
list_faults pds form values marks n =
    not (lists_fit values marks n)
    ∷ mark_odd marks n
    ∷ any_bad (the_bitmap_given form.bitmap) form.packing.bits values marks n
    ∷ differ (the_has_grid pds 0) (the_grid_given form.grid)
    ∷ differ (the_has_bitmap pds 0) (the_bitmap_given form.bitmap)
    ∷ []

-- 5 to 11
unfoldable pub early_rows : List ℕ → Form → Scale → Lent → List ℕ → List ℕ → Option Grid → ℕ → List Row
early_rows pds form scale lent values marks found n = front_rows pds found ++ middle_rows form scale lent values marks n

-- all but 14
unfoldable pub own_rows : List ℕ → Form → Scale → Lent → List ℕ → List ℕ → Option Grid → ℕ → List Row
own_rows pds form scale lent values marks found n =
    early_rows pds form scale lent values marks found n ++ (row 13 (any_of (list_faults pds form values marks n)) ∷ [])

-- so many zeros: values that 13 takes at any point
abbrev pub zeros : ℕ → List ℕ
zeros long = tab (λ _. 0) long

-- 13 at one of n points, by the marks alone
unfoldable pub the_marks_off : Bool → List ℕ → ℕ → Bool
the_marks_off bitmap marks n = any_below (λ i. ltb 1 (mark_of marks i) || (eqb (mark_of marks i) 0 && not bitmap)) n

-- all but 14 by the marks and how many values there are
unfoldable pub mark_rows : List ℕ → Form → Scale → Lent → ℕ → List ℕ → Option Grid → ℕ → List Row
mark_rows pds form scale lent long marks found n = own_rows pds form scale lent (zeros long) marks found n
