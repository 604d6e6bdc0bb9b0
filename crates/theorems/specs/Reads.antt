-- Document 00, demand 2: "Reading gives exactly what GRIB Edition 1 defines: sections that tile the message, packed
-- integers, present points, scales, and the row and column of each grid point".
use Rattle.std.specs.Prelude.{ℕ, ◌+◌, ◌-◌, ◌*◌, ◌^◌, ◌<◌, ◌≤◌, ◌≡◌, ◌↔◌, ◌⊎◌, true, false, cond, List, [], ◌∷◌, map, T, eqb, pos, negsuc, length, get_or, take, drop, replicate, Some}
use Rattle.std.specs.Int.Signed.{lt_z}
use Rattle.std.specs.Float.{binary64}
use Rattle.std.specs.Float.Ieee.{of_bits}
use Rattle.std.specs.Float.Ieee.Exact.{HasValue}
use Rattle.bits.specs.Bits.{bits_in, run, count}
use Rattle.rules.specs.declared.{Signed.Signed, Part.Part, Bitmap.TheVariants.Without, Shape.Shape}
use Rattle.rules.specs.Answers.{Header}
use Rattle.rules.specs.declared.{Shape.TheVariants.Even, Shape.TheVariants.Uneven, Geometry.Geometry}
use Rattle.rules.specs.declared.{Geometry.TheVariants.LatLon, Geometry.TheVariants.Thinned}
use Rattle.rules.specs.declared.{Geometry.TheVariants.Mercator, Geometry.TheVariants.Lambert}
use Rattle.rules.specs.declared.{Geometry.TheVariants.Gaussian, Geometry.TheVariants.Polar, Grid.Grid}
use Rattle.rules.specs.declared.{GridPoint.GridPoint, Spot.Spot}
use Rattle.rules.specs.Bounds.{bds_head}
use Rattle.rules.specs.Numbers.{joined, decimal_at}
use Rattle.rules.specs.Table.{refusal, accepted}
use Rattle.rules.specs.Places.{octets_of, no_part, after, pds_start, the_end_start, the_has_grid, the_has_bitmap, places_of, sections_of}
use Rattle.rules.specs.Time.{the_moment_at}
use Rattle.rules.specs.Counts.{total, the_before_row, counts_of}
use Rattle.rules.specs.Layouts.{thinned}
use Rattle.rules.specs.Grid.{kind_of, grid_or_zeros, the_rectangle_of, shape_of}
use Rattle.rules.specs.Chart.{west, north, by_column, spot_of, point_of, the_spot_among, the_point_among, the_points_on, the_rows_on, the_row_long}
use Rattle.rules.specs.Chart.{the_spot_on, the_point_on, charted, pointed}
use Rattle.rules.specs.Bitmap.{Lent, mark_of, marks_long, value_of}
use Rattle.rules.specs.Points.{numbered, absent}
use Rattle.rules.specs.Values.{s_of, b_of, size_of, unit}
use Rattle.rules.specs.Reading.{own_refusal, grid_of, bitmap_in, points_in, present_in, present_count, packing_in, data_in}
use Rattle.rules.specs.Reading.{header_of, read_refusal, read_of, the_values_after, the_marks_after, section_of, numbering_of}
use Rattle.rules.specs.Writing.{Parts, grid_for, points_for}
use Rattle.rules.specs.RoundTrip.{parts_in}
use Rattle.rules.specs.Display.{shown_reference, shown_step}
use Rattle.laws.specs.Taken.{Taken}

-- "sections that tile the message"
abbrev pub SectionsTile : Type 0
SectionsTile = (s : List ℕ) (lent : Lent) → Taken s lent → joined (map (octets_of s) (sections_of s)) ≡ s

-- and so do the parts that "asking for section 0 to 5" hands back; "an absent section, another number .. gives the
-- empty part at its start"
pub record HandedBack (s : List ℕ) (lent : Lent) : Type 0 where
  pub tile : joined (map (λ k. octets_of s (section_of s lent k)) (0 ∷ 1 ∷ 2 ∷ 3 ∷ 4 ∷ 5 ∷ [])) ≡ s
  pub gds : the_has_grid s pds_start ≡ false → section_of s lent 2 ≡ no_part
  pub bms : the_has_bitmap s pds_start ≡ false → section_of s lent 3 ≡ no_part
  pub other : (k : ℕ) → 5 < k → section_of s lent k ≡ no_part

abbrev pub SectionsHanded : Type 0
SectionsHanded = (s : List ℕ) (lent : Lent) → Taken s lent → HandedBack s lent

-- "or a message that 1 to 12 refuse"
abbrev pub RefusedHasNone : Type 0
RefusedHasNone = (s : List ℕ) (lent : Lent) (k : ℕ) → accepted (own_refusal s lent) ≡ false → section_of s lent k ≡ no_part

-- one after another: each part starts where the one before it ends, the first at one place, and the last ends at the
-- other
abbrev pub Adjoining : ℕ → List Part → ℕ → Type 0
Adjoining from [] to = from ≡ to
Adjoining from (p ∷ parts) to = (p.start ≡ from) × Adjoining (after p) parts to

-- those of some parts that have octets
abbrev pub with_octets : List Part → List Part
with_octets [] = []
with_octets (p ∷ parts) = cond (eqb p.len 0) (with_octets parts) (p ∷ with_octets parts)

-- how the sections tile a message: the PDS starts at 8, each section where the one before it ends, and the end section,
-- where the BDS ends, 4 octets before the message's end. An absent section has no octets, and those that have some, as
-- "asking for section 0 to 5" hands them back, lie one after another from the message's first octet to its last
pub record Adjoined (s : List ℕ) (lent : Lent) : Type 0 where
  pub pds : (places_of s).pds.start ≡ 8
  pub gds : (places_of s).gds.start ≡ after (places_of s).pds
  pub bms : (places_of s).bms.start ≡ after (places_of s).gds
  pub bds : (places_of s).bds.start ≡ after (places_of s).bms
  pub end : the_end_start s ≡ after (places_of s).bds
  pub last : the_end_start s + 4 ≡ length s
  pub without-gds : the_has_grid s pds_start ≡ false → (places_of s).gds.len ≡ 0
  pub without-bms : the_has_bitmap s pds_start ≡ false → (places_of s).bms.len ≡ 0
  pub lie : Adjoining 0 (sections_of s) (length s)
  pub handed : Adjoining 0 (with_octets (map (section_of s lent) (0 ∷ 1 ∷ 2 ∷ 3 ∷ 4 ∷ 5 ∷ []))) (length s)

abbrev pub SectionsAdjoin : Type 0
SectionsAdjoin = (s : List ℕ) (lent : Lent) → Taken s lent → Adjoined s lent

-- of a point, where reading left these lists: "A present grid point's data number is the count of ones before it in the
-- bitmap", its value stands among the data by that number; "An absent point has none", and "0 and 0 at absent points"
pub record LeftAt (s : List ℕ) (lent : Lent) (values marks : List ℕ) (i : ℕ) : Type 0 where
  pub bit : present_in s lent i < 2
  pub mark : mark_of marks i ≡ present_in s lent i
  pub here : present_in s lent i ≡ 1
      → let k = count (present_in s lent) 0 i in
      (numbering_of s lent i ≡ numbered k) × (k < present_count s lent) × (value_of values i ≡ get_or (data_in s lent) k 0)
  pub away : present_in s lent i ≡ 0 → (numbering_of s lent i ≡ absent) × (value_of values i ≡ 0)

abbrev pub ReadAt : List ℕ → Lent → List ℕ → List ℕ → ℕ → Type 0
ReadAt s lent values marks i = LeftAt s lent (the_values_after s lent values marks) (the_marks_after s lent values marks) i

abbrev pub ValueAtPoint : Type 0
ValueAtPoint =
    (s : List ℕ) (lent : Lent) (values marks : List ℕ) → T (accepted (read_refusal s lent values marks)) → (i : ℕ)
    → i < points_in s → ReadAt s lent values marks i

-- "Values are taken one after another from the place reached": the k-th of the m values stands at its bit place, inside
-- the data section
pub record StandsAt (s : List ℕ) (lent : Lent) (k bits : ℕ) : Type 0 where
  pub inside : k * bits + bits ≤ 8 * ((places_of s).bds.len - bds_head)
  pub is : get_or (data_in s lent) k 0 ≡ run (bits_in 8 s) (((places_of s).bds.start + bds_head) * 8 + k * bits) bits

abbrev pub PackedSimply : Type 0
PackedSimply =
    (s : List ℕ) (lent : Lent) → Taken s lent → (k : ℕ) → k < present_count s lent
    → StandsAt s lent k (packing_in s).bits

-- "or its own number where there is no bitmap"
abbrev pub OwnNumber : Type 0
OwnNumber =
    (s : List ℕ) (lent : Lent) → Taken s lent → bitmap_in s ≡ Without → (i : ℕ) → i < points_in s → numbering_of s lent i
    ≡ numbered i

-- "elements after n stay"
abbrev pub ReadKeeps : Type 0
ReadKeeps = (s : List ℕ) (lent : Lent) (values marks : List ℕ) → T (accepted (read_refusal s lent values marks))
    → (drop (points_in s) (the_values_after s lent values marks) ≡ drop (points_in s) values)
    × (drop (marks_long (points_in s)) (the_marks_after s lent values marks) ≡ drop (marks_long (points_in s)) marks)

-- "sections .., packed integers, present points, scales": what is handed out of a message, a header and two lists as
-- reading left them, is the parts w, field by field, and the places of the message's sections
pub record Told (s : List ℕ) (h : Header) (values marks : List ℕ) (w : Parts) : Type 0 where
  pub refusal : h.refusal ≡ refusal 0
  pub places : h.places ≡ places_of s
  pub pds : octets_of s h.places.pds ≡ w.pds
  pub time : h.time ≡ the_moment_at w.pds 0
  pub d : h.d ≡ decimal_at w.pds 0
  pub grid : h.grid ≡ grid_or_zeros (grid_for w)
  pub points : h.points ≡ points_for w
  pub bitmap : h.bitmap ≡ w.form.bitmap
  pub present : h.present ≡ count (mark_of w.marks) 0 (points_for w)
  pub packing : h.packing ≡ w.form.packing
  pub scale : h.scale ≡ w.scale
  pub each : take (points_for w) values ≡ w.values
  pub which : take (marks_long (points_for w)) marks ≡ w.marks

abbrev pub Tells : List ℕ → Lent → List ℕ → List ℕ → Parts → Type 0
Tells s lent values marks w =
    Told s (read_of s lent values marks) (the_values_after s lent values marks) (the_marks_after s lent values marks) w

-- of any taken message, with room for its points: the parts by which the round trips speak of it
abbrev pub ReadTells : Type 0
ReadTells =
    (s : List ℕ) (lent : Lent) (values marks : List ℕ) → Taken s lent → points_in s ≤ length values
    → marks_long (points_in s) ≤ length marks → Tells s lent values marks (parts_in s lent)

-- "One that invents the present count: it equals the bitmap's ones"
abbrev pub PresentCounted : Type 0
PresentCounted =
    (s : List ℕ) (lent : Lent) → Taken s lent → (header_of s lent).present ≡ count (present_in s lent) 0 (points_in s)

-- "The chart's row 0 is north and column 0 is west, by these flags": point i of scanned row j, counted in the order of
-- bit 3, is drawn in row j, or from the other end where bit 2 says that rows run north, and in column i, or from the
-- other end where bit 1 says that columns run west
abbrev pub ChartDrawn : Type 0
ChartDrawn =
    (ni nj scan j i : ℕ) → j < nj → i < ni
    → spot_of ni nj scan (cond (by_column scan) (i * nj + j) (j * ni + i)) ≡ record { row = cond (north scan) (nj - 1 - j) j; column = cond (west scan) (ni - 1 - i) i }

-- "The chart's row 0 is north", by the latitudes: La1 is the first scanned row's and La2 the last one's. How many points
-- scanned row j has, point i of it, and the chart's row in which all of them are drawn
abbrev pub scanned_long : Shape → ℕ → ℕ
scanned_long (Even q) j = q.ni
scanned_long (Uneven u) j = get_or (counts_of u.start) j 0

abbrev pub scanned_point : Shape → ℕ → ℕ → ℕ
scanned_point (Even q) j i = cond (by_column q.scan) (i * q.nj + j) (j * q.ni + i)
scanned_point (Uneven u) j i = the_before_row (counts_of u.start) j + i

abbrev pub DrawnIn : Shape → ℕ → ℕ → Type 0
DrawnIn g j r = (i : ℕ) → i < scanned_long g j → (the_spot_on g (scanned_point g j i)).row ≡ r

-- of a grid of more than one row: where La1 is above La2 the first scanned row is the chart's row 0 and the last one
-- its last, where La2 is above La1 they change places, and there is no third case
abbrev pub NorthOnTop : Shape → Signed → Signed → Type 0
NorthOnTop g la1 la2 =
    let last = the_rows_on g - 1 in
    ((lt_z la2.value la1.value ≡ true) × DrawnIn g 0 0 × DrawnIn g last last)
    ⊎ ((lt_z la1.value la2.value ≡ true) × DrawnIn g 0 last × DrawnIn g last 0)

-- R-4: "on the other two, chart row 0 is the greatest y": how many rows scanned row j stands above the row of the least
-- y, by bit 2, and that the rows are drawn from the greatest y down
abbrev pub above_least : ℕ → ℕ → ℕ → ℕ
above_least scan rows j = cond (north scan) j (rows - 1 - j)

abbrev pub GreatestOnTop : Shape → ℕ → Type 0
GreatestOnTop g scan = (j : ℕ) → j < the_rows_on g → DrawnIn g j (the_rows_on g - 1 - above_least scan (the_rows_on g) j)

-- what row 0 is, by the kind of grid
abbrev pub TopBy : Shape → Grid → Geometry → Type 0
TopBy q g (LatLon x) = NorthOnTop q g.la1 x.la2
TopBy q g (Thinned o) = NorthOnTop q g.la1 o.edges.la2
TopBy q g (Mercator x) = NorthOnTop q g.la1 x.la2
TopBy q g (Lambert x) = GreatestOnTop q g.scan
TopBy q g (Gaussian x) = NorthOnTop q g.la1 x.la2
TopBy q g (Polar x) = GreatestOnTop q g.scan

-- of every message that is taken, by its GDS or by the catalogue
abbrev pub TopOfChart : Type 0
TopOfChart =
    (s : List ℕ) (lent : Lent) → Taken s lent
    → let g = grid_or_zeros (grid_of s) in 1 < the_rows_on (shape_of g)
    → TopBy (shape_of g) g g.geometry

-- "The facts about scanning and points are proved once over all grid kinds": they speak of shapes, and the shape of a
-- grid that is not thinned is the same function of Ni, Nj and the scanning flags, whatever its kind
abbrev pub OneChart : Type 0
OneChart = (g : Grid) → (kind_of g.geometry ≡ thinned → ⊥) → shape_of g ≡ the_rectangle_of g

-- "the row and column of each grid point": place and point determine each other on every grid, whatever its flags
abbrev pub PlacePoint : Type 0
PlacePoint =
    (g : Shape)
    → ((k : ℕ) → k < the_points_on g
    → ((the_spot_on g k).row < the_rows_on g) × ((the_spot_on g k).column < the_row_long g (the_spot_on g k).row) × (the_point_on g (the_spot_on g k) ≡ k))
    × ((c : Spot) → c.row < the_rows_on g → c.column < the_row_long g c.row → (the_point_on g c < the_points_on g)
    × (the_spot_on g (the_point_on g c) ≡ c))

-- and so as they are answered
abbrev pub PlacePointAnswers : Type 0
PlacePointAnswers = (g : Shape) (k : GridPoint) (c : Spot) → (charted g k ≡ Some c) ↔ (pointed g c ≡ Some k)

-- R-1: "A place is then a row and a position in that row": the rectangle scanned by rows is the case of equal counts,
-- its points, and the place of each and back
abbrev pub EqualCounts : Type 0
EqualCounts =
    (ni nj scan : ℕ) → by_column scan ≡ false
    → (total (replicate nj ni) ≡ ni * nj)
    × ((k : ℕ) → k < ni * nj → the_spot_among (replicate nj ni) scan k ≡ spot_of ni nj scan k)
    × ((c : Spot) → c.row < nj → c.column < ni → the_point_among (replicate nj ni) scan c ≡ point_of ni nj scan c)

-- "IEEE doubles of exactly those values": R in size size_of r / 16^70 with its sign, and 2^E. "R with B = 0 gives all
-- bits zero"
abbrev pub ShownExactly : Type 0
ShownExactly =
    ((r : ℕ) → r < 2 ^ 32 → 0 < b_of r → HasValue (shown_reference r) (eqb (s_of r) 1) (size_of r) unit)
    × ((r : ℕ) → b_of r ≡ 0 → shown_reference r ≡ of_bits binary64 0)
    × ((e : ℕ) → e ≤ 1023 → HasValue (shown_step (pos e)) false (2 ^ e) 1)
    × ((e : ℕ) → e < 1022 → HasValue (shown_step (negsuc e)) false 1 (2 ^ (e + 1)))
