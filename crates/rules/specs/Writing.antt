-- Document 01, writing: its rows 5, 6, 7, 9, 10, 11, 13, 14 over the parts given, and the octets of the message.
use Rattle.std.specs.Prelude.{ℕ, ◌+◌, ◌%◌, ◌^◌, Bool, true, false, not, ◌&&◌, ◌||◌, cond, List, [], ◌∷◌, ltb, leb}
use Rattle.std.specs.Prelude.{eqb, None, Option, Some}
use Rattle.std.specs.Prelude.{pos, length}
use Rattle.rules.specs.declared.{Refusal.Refusal, Grid.Grid}
use Rattle.rules.specs.declared.{Bitmap.Bitmap, Bitmap.TheVariants.Without}
use Rattle.rules.specs.declared.{Bitmap.TheVariants.Carried, Bitmap.TheVariants.Stored, Form.Form, Scale.Scale}
use Rattle.rules.specs.Answers.{Written}
use Rattle.rules.specs.Bounds.{pds_least, pds_most, exponent_most}
use Rattle.bits.specs.Bits.{bits_in}
use Rattle.bits.specs.Tables.{tab, any_below}
use Rattle.rules.specs.Numbers.{Field, number, field, laid, joined, plain, not_within, beyond}
use Rattle.rules.specs.Table.{Row, row, any_of, first, answered, filled}
use Rattle.rules.specs.Places.{grib, sevens, the_has_grid, the_has_bitmap}
use Rattle.rules.specs.Time.{time_faults}
use Rattle.rules.specs.Grid.{the_grid_from, the_grid_missing, grid_or_zeros, grid_faults, points_of, gds_of}
use Rattle.rules.specs.Bitmap.{the_bitmap_given, mark_of, marks_long, mark_odd, value_of, Lent, lent_faults, bms_of}
use Rattle.rules.specs.Points.{gathered}
use Rattle.rules.specs.Values.{packing_faults, bds_of}

-- what the writer is given: the PDS's octets, the form, E and R, the lent bitmap, and the lists of values and marks
pub record Parts : Type 0 where
  pub pds : List ℕ
  pub form : Form
  pub scale : Scale
  pub lent : Lent
  pub values : List ℕ
  pub marks : List ℕ

-- "a given grid is judged by 9, without one 7 applies, and n is that grid's"
unfoldable pub grid_for : Parts → Option Grid
grid_for w = the_grid_from w.form.grid w.pds 0

unfoldable pub points_for : Parts → ℕ
points_for w = points_of (grid_or_zeros (grid_for w))

-- 5 "covers the PDS length and its octets 1-3"
unfoldable pub pds_faults : List ℕ → List Bool
pds_faults pds =
    eqb (length pds % 2) 1 ∷ not_within pds_least pds_most (length pds) ∷ not (eqb (number pds 0 1 3) (length pds)) ∷ []

-- both lists of n points
unfoldable pub lists_fit : List ℕ → List ℕ → ℕ → Bool
lists_fit values marks n = eqb (length values) n && eqb (length marks) (marks_long n)

-- 10: "no such stored bitmap, or (writing, lists n long) one of its first n bits isn't the same number as the mark"
unfoldable pub stored_faults : Bitmap → Lent → List ℕ → List ℕ → ℕ → List Bool
stored_faults Without lent values marks n = []
stored_faults Carried lent values marks n = []
stored_faults (Stored number) lent values marks n =
    (lists_fit values marks n && any_below (λ i. not (eqb (bits_in 8 lent.octets i) (mark_of marks i))) n)
    ∷ lent_faults lent number n

abbrev pub the_grid_given : Option Grid → Bool
the_grid_given None = false
the_grid_given (Some g) = true

-- 13, at one point: "an absent point without a bitmap or with value not 0, a value of 2^N or more"
unfoldable pub point_bad : Bool → ℕ → ℕ → ℕ → Bool
point_bad bitmap bits mark value = (eqb mark 0 && (not bitmap || not (eqb value 0))) || leb (2 ^ bits) value

abbrev pub differ : Bool → Bool → Bool
differ a b = cond a (not b) b

-- 13: "lists not n long, a mark not 0 or 1, .., PDS octet 8 not matching the parts given"
unfoldable pub parts_faults : Parts → List Bool
parts_faults w =
    not (lists_fit w.values w.marks (points_for w))
    ∷ mark_odd w.marks (points_for w)
    ∷ any_below
    (λ i. point_bad (the_bitmap_given w.form.bitmap) w.form.packing.bits (mark_of w.marks i)
    (value_of w.values i)) (points_for w)
    ∷ differ (the_has_grid w.pds 0) (the_grid_given w.form.grid)
    ∷ differ (the_has_bitmap w.pds 0) (the_bitmap_given w.form.bitmap)
    ∷ []

-- a GDS of the grid given, none where none is
abbrev pub gds_for : Option Grid → List ℕ
gds_for None = []
gds_for (Some g) = gds_of g

-- the sections that stand between the indicator and the end, "'7777'"
unfoldable pub sections_for : Parts → List (List ℕ)
sections_for w =
    w.pds
    ∷ gds_for w.form.grid
    ∷ bms_of w.form.bitmap (mark_of w.marks) (points_for w)
    ∷ bds_of w.form.packing w.scale (gathered (mark_of w.marks) (value_of w.values) (points_for w))
    ∷ laid (field 4 sevens ∷ []) []
    ∷ []

-- "Indicator, 8 octets: 'GRIB', total length (5-7), edition 1 (8)"
abbrev pub indicator_fields : ℕ → List Field
indicator_fields len = field 4 grib ∷ field 3 len ∷ field 1 1 ∷ []

unfoldable pub message : Parts → List ℕ
message w =
    let sections = joined (sections_for w) in
    laid (indicator_fields (8 + length sections)) sections

-- "The writer never gives 1 to 4, 8 or 12"
unfoldable pub write_table : Parts → List ℕ → List Row
write_table w out =
    row 5 (any_of (pds_faults w.pds))
    ∷ row 6 (any_of (time_faults w.pds 0))
    ∷ row 7 (the_grid_missing (grid_for w))
    ∷ row 9 (any_of (grid_faults (grid_or_zeros (grid_for w))))
    ∷ row 10 (any_of (stored_faults w.form.bitmap w.lent w.values w.marks (points_for w)))
    ∷ row 11 (any_of (beyond exponent_most w.scale.e.value ∷ packing_faults w.form.packing))
    ∷ row 13 (any_of (parts_faults w))
    ∷ row 14 (ltb (length out) (length (message w)))
    ∷ []

unfoldable pub write_refusal : Parts → List ℕ → Refusal
write_refusal w out = first (write_table w out)

-- what writing a message answers: its length
unfoldable pub length_of : Refusal → List ℕ → Written
length_of r s = record { refusal = r; len = answered r (length s) 0 }

unfoldable pub write_of : Parts → List ℕ → Written
write_of w out = length_of (write_refusal w out) (message w)

-- "Writing fills the message's octets; later ones stay"
unfoldable pub output_after : Parts → List ℕ → List ℕ
output_after w out = filled (write_refusal w out) (message w) out

-- what is known of a message before its values are: the parts with E, R and the value at each of its n points 0
unfoldable pub unvalued : List ℕ → Form → Lent → List ℕ → Parts
unvalued pds form lent marks = record {
  pds = pds;
  form = form;
  scale = record { e = plain (pos 0); r = 0 };
  lent = lent;
  values = tab (λ _. 0) (points_of (grid_or_zeros (the_grid_from form.grid pds 0)));
  marks = marks;
}

-- how many octets it will take: what writing these answers where just the message's octets are lent
unfoldable pub length_for : List ℕ → Form → Lent → List ℕ → Written
length_for pds form lent marks =
    let w = unvalued pds form lent marks in
    write_of w (message w)
