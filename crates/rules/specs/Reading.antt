-- Document 01, "Reply numbers": the reader's table, the header, the lists that reading writes, the sections.
use Rattle.std.specs.Prelude.{ℕ, ◌&&◌, ◌||◌, cond, List, [], ◌∷◌, ◌++◌, ltb, eqb, pos, length, get_or, None, Option}
use Rattle.std.specs.Prelude.{Some}
use Rattle.rules.specs.declared.{Refusal.Refusal, Signed.Signed, Part.Part, Grid.Grid}
use Rattle.rules.specs.declared.{Bitmap.Bitmap}
use Rattle.rules.specs.declared.{Bitmap.TheVariants.Without, Packing.Packing, Scale.Scale, Parsed.Parsed}
use Rattle.rules.specs.Answers.{Header}
use Rattle.bits.specs.Bits.{count}
use Rattle.rules.specs.Numbers.{plain, decimal_at}
use Rattle.rules.specs.Table.{Row, row, any_of, first, refusal, answered, filled}
use Rattle.rules.specs.Places.{no_part, pds_start, the_has_grid, the_has_bitmap, places_of, sections_of, the_size_bad}
use Rattle.rules.specs.Places.{the_grib_bad, the_edition_bad, total_faults}
use Rattle.rules.specs.Walk.{walk_of}
use Rattle.rules.specs.Time.{the_moment_at, no_moment, time_faults}
use Rattle.rules.specs.Grid.{the_grid_at, the_grid_from, the_grid_missing, the_no_grid, grid_or_zeros, the_gds_bad}
use Rattle.rules.specs.Grid.{points_of, grid_faults}
use Rattle.rules.specs.Bitmap.{Lent, the_bitmap_at, bitmap_faults, InForce, in_force, no_bitmap, bitmap_octets}
use Rattle.rules.specs.Bitmap.{present_by}
use Rattle.rules.specs.Bitmap.{marks_of, marks_long}
use Rattle.rules.specs.Points.{Numbering, outside, the_data_number, scattered}
use Rattle.rules.specs.Values.{the_packing_at, scale_at, packing_faults, the_length_bad, values_at}

-- the parts of a message, whatever its octets are: its GDS's grid if it has one, its grid, the kind of its bitmap, and
-- so on
unfoldable pub grid_in : List ℕ → Option Grid
grid_in s = cond (the_has_grid s pds_start) (Some (the_grid_at s (places_of s).gds)) None

unfoldable pub grid_of : List ℕ → Option Grid
grid_of s = the_grid_from (grid_in s) s pds_start

unfoldable pub points_in : List ℕ → ℕ
points_in s = points_of (grid_or_zeros (grid_of s))

unfoldable pub bitmap_in : List ℕ → Bitmap
bitmap_in s = the_bitmap_at s (the_has_bitmap s pds_start) (places_of s).bms.start

unfoldable pub in_force_in : List ℕ → InForce
in_force_in s = in_force (bitmap_in s) (places_of s).bms (points_in s)

unfoldable pub present_in : List ℕ → Lent → ℕ → ℕ
present_in s lent = present_by (bitmap_in s) (bitmap_octets s lent.octets (in_force_in s))

unfoldable pub present_count : List ℕ → Lent → ℕ
present_count s lent = count (present_in s lent) 0 (points_in s)

unfoldable pub packing_in : List ℕ → Packing
packing_in s = the_packing_at s (places_of s).bds.start

unfoldable pub the_scale_in : List ℕ → Scale
the_scale_in s = scale_at s (places_of s).bds.start

unfoldable pub decimal_in : List ℕ → Signed
decimal_in s = decimal_at s pds_start

-- the values of the m data points, however they are packed
unfoldable pub data_in : List ℕ → Lent → List ℕ
data_in s lent = values_at s (places_of s).bds.start (packing_in s).bits (present_count s lent)

-- and those of the n grid points, with their marks
unfoldable pub values_in : List ℕ → Lent → List ℕ
values_in s lent = scattered (present_in s lent) (data_in s lent) (points_in s)

unfoldable pub marks_in : List ℕ → Lent → List ℕ
marks_in s lent = marks_of (present_in s lent) (points_in s)

-- the reader's table, "1 to 12", which "includes" 20 to 23: each row with the words of document 01
unfoldable pub message_table : List ℕ → Lent → List Row
message_table s lent =
    -- "slice below 8 or above 262,144 octets"
    row 1 (the_size_bad s)
    -- "first four octets not 'GRIB'"
    ∷ row 2 (the_grib_bad s)
    -- "edition not 1"
    ∷ row 3 (the_edition_bad s)
    -- "total length is not the slice's, or last four octets not '7777'"
    ∷ row 4 (any_of (total_faults s))
    -- R-2: "5 becomes 20 to 23 in that order, section by section from the front, where 5 stood"
    ∷ walk_of s
    -- "time out of its ranges"; R-3: "6, with the amended range"
    ++ (row 6 (any_of (time_faults s pds_start))
    -- "no GDS, octet 7 not in the catalogue"
    ∷ row 7 (the_grid_missing (grid_of s))
    -- "GDS length or octets 4 to 6 not as above"; R-1: "8 admits this length and octet 5"
    ∷ row 8 (the_has_grid s pds_start && the_gds_bad s (places_of s).gds)
    -- "Ni, Nj, n, a latitude, a longitude or the scan test outside the rules", "a thinned GDS that isn't by value one
    -- of the eight"
    ∷ row 9 (any_of (grid_faults (grid_or_zeros (grid_of s))))
    -- "bitmap rule broken, or no such stored bitmap"
    ∷ row 10 (any_of (bitmap_faults s lent (places_of s).bms (bitmap_in s) (points_in s)))
    -- "BDS flag bit 1, 2 or 4 set, N over 24"
    ∷ row 11 (any_of (packing_faults (packing_in s)))
    -- "data length rule broken"
    ∷ row 12 (the_length_bad s (places_of s).bds (present_count s lent) (packing_in s))
    ∷ [])

-- what is read before it is judged
unfoldable pub parsed_of : List ℕ → Parsed
parsed_of s = record {
  places = places_of s;
  found = grid_of s;
  grid = grid_or_zeros (grid_of s);
  points = points_in s;
  bitmap = bitmap_in s;
  packing = packing_in s;
}

-- a refused answer: "its number with all counts and fields zero"
unfoldable pub refused_by : Refusal → Header
refused_by r =
    record {
      refusal = r;
      places = record { pds = no_part; gds = no_part; bms = no_part; bds = no_part };
      time = no_moment;
      d = plain (pos 0);
      grid = the_no_grid;
      points = 0;
      bitmap = Without;
      present = 0;
      packing = record { flags = 0; bits = 0 };
      scale = record { e = plain (pos 0); r = 0 };
    }

unfoldable pub found_by : List ℕ → Parsed → ℕ → Header
found_by s q m = record {
  refusal = refusal 0;
  places = q.places;
  time = the_moment_at s pds_start;
  d = decimal_in s;
  grid = q.grid;
  points = q.points;
  bitmap = q.bitmap;
  present = m;
  packing = q.packing;
  scale = scale_at s q.places.bds.start;
}

unfoldable pub found_in : List ℕ → Lent → Header
found_in s lent = found_by s (parsed_of s) (present_count s lent)

unfoldable pub own_refusal : List ℕ → Lent → Refusal
own_refusal s lent = first (message_table s lent)

unfoldable pub answer_by : Refusal → List ℕ → Lent → Header
answer_by r s lent = answered r (found_in s lent) (refused_by r)

-- the header of a message, with no list lent
unfoldable pub header_of : List ℕ → Lent → Header
header_of s lent = answer_by (own_refusal s lent) s lent

-- reading into lent lists: 14 "lent output too short" comes last
unfoldable pub read_table : List ℕ → Lent → List ℕ → List ℕ → List Row
read_table s lent values marks =
    message_table s lent
    ++ (row 14 (ltb (length values) (points_in s) || ltb (length marks) (marks_long (points_in s))) ∷ [])

unfoldable pub read_refusal : List ℕ → Lent → List ℕ → List ℕ → Refusal
read_refusal s lent values marks = first (read_table s lent values marks)

unfoldable pub read_of : List ℕ → Lent → List ℕ → List ℕ → Header
read_of s lent values marks = answer_by (read_refusal s lent values marks) s lent

-- "Reading writes n values and n marks, 0 and 0 at absent points; elements after n stay": the two lent lists afterwards
unfoldable pub the_values_after : List ℕ → Lent → List ℕ → List ℕ → List ℕ
the_values_after s lent values marks = filled (read_refusal s lent values marks) (values_in s lent) values

unfoldable pub the_marks_after : List ℕ → Lent → List ℕ → List ℕ → List ℕ
the_marks_after s lent values marks = filled (read_refusal s lent values marks) (marks_in s lent) marks

-- "With no bitmap, or a refused message, it is the empty part at the message's start"
unfoldable pub bitmap_of : List ℕ → Lent → InForce
bitmap_of s lent = answered (own_refusal s lent) (in_force_in s) no_bitmap

-- "Asking for section 0 to 5 hands back that part ..; an absent section, another number or a message that 1 to 12
-- refuse gives the empty part at its start"
unfoldable pub section_of : List ℕ → Lent → ℕ → Part
section_of s lent k =
    let p = get_or (sections_of s) k no_part in
    answered (own_refusal s lent) (cond (eqb p.len 0) no_part p) no_part

-- the data number of a grid point of a message; a refused message has no points
unfoldable pub numbering_of : List ℕ → Lent → ℕ → Numbering
numbering_of s lent i = answered (own_refusal s lent) (the_data_number (present_in s lent) (points_in s) i) outside
