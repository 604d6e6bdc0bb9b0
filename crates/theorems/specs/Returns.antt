-- Document 00, demand 2: "Writing gives a message that reads back to the same parts", and "Reading and then writing
-- gives the same octets when ..".
use Rattle.std.specs.Prelude.{ℕ, zero, suc, ◌+◌, ◌-◌, ◌*◌, ◌^◌, ◌<◌, ◌≤◌, ◌≡◌, ◌↔◌, ◌⊎◌, Bool, true, false, cond, List, [], ◌∷◌, T, eqb, length, get_or, take, None, Option, Some}
use Rattle.rules.specs.declared.{Grid.Grid}
use Rattle.rules.specs.Answers.{Header, Written}
use Rattle.rules.specs.declared.{Bitmap.Bitmap, Bitmap.TheVariants.Without}
use Rattle.rules.specs.declared.{Bitmap.TheVariants.Carried, Bitmap.TheVariants.Stored, Form.Form}
use Rattle.bits.specs.Bits.{bits_in, octets_for}
use Rattle.rules.specs.Bounds.{pds_most, long_length, bms_head, bds_head, points_most, the_bits_most}
use Rattle.rules.specs.Numbers.{octet, even_from}
use Rattle.rules.specs.Table.{refusal, accepted}
use Rattle.rules.specs.Places.{octets_of, pds_start, the_has_grid, places_of}
use Rattle.rules.specs.Columns.{Sort, carried, needed, distance, side, latitude, longitude, reserved as kept, Column}
use Rattle.rules.specs.Layouts.{Kind, thinned, columns}
use Rattle.rules.specs.Grid.{kind_of, cells_of, kind_at}
use Rattle.rules.specs.Bitmap.{Lent, marks_long}
use Rattle.rules.specs.Reading.{points_in, bitmap_in, present_count, packing_in, read_of, the_values_after, the_marks_after}
use Rattle.rules.specs.Writing.{Parts, points_for, message, write_refusal, write_of, output_after, length_for}
use Rattle.rules.specs.Checking.{Source}
use Rattle.rules.specs.Packing.{packed_parts, pack_refusal}
use Rattle.rules.specs.RoundTrip.{parts_in, stains, canonical}
use Rattle.laws.specs.Cells.{CellsTyped}
use Rattle.laws.specs.Taken.{Taken}
use Rattle.theorems.specs.Reads.{Tells}

-- what the types of the code's parameters hold by themselves
abbrev pub Below : ℕ → List ℕ → Type 0
Below b s = (i : ℕ) → get_or s i 0 < b

-- of a grid, column by column of its kind's table
abbrev pub GridFits : Grid → Type 0
GridFits g = CellsTyped (columns (kind_of g.geometry)) (cells_of g)

abbrev pub FoundFits : Option Grid → Type 0
FoundFits None = Unit {0}
FoundFits (Some g) = GridFits g

abbrev pub NumberFits : Bitmap → Type 0
NumberFits Without = Unit {0}
NumberFits Carried = Unit {0}
NumberFits (Stored number) = number < 2 ^ 16

-- what a caller finds in the lent output: the octets of the length that is answered
abbrev pub handed : Written → List ℕ → List ℕ
handed answer out = take answer.len out

-- what a caller has of a message that was read, to be written again: the header and the two lists that reading handed
-- out, and the PDS, cut out of the message at the place that the header says; a grid where the header has a grid
-- section
unfoldable pub parts_from : List ℕ → Lent → Header → List ℕ → List ℕ → Parts
parts_from s lent h values marks = record {
  pds = octets_of s h.places.pds;
  form = record { grid = cond (eqb h.places.gds.len 0) None (Some h.grid); bitmap = h.bitmap; packing = h.packing };
  scale = h.scale;
  lent = lent;
  values = take h.points values;
  marks = take (marks_long h.points) marks;
}

abbrev pub parts_read : List ℕ → Lent → List ℕ → List ℕ → Parts
parts_read s lent values marks =
    parts_from s lent (read_of s lent values marks) (the_values_after s lent values marks) (the_marks_after s lent values marks)

-- "Reading gives exactly what GRIB Edition 1 defines": with room for its points, these are the parts by which the round
-- trips speak of a message
abbrev pub ReadMakes : Type 0
ReadMakes =
    (s : List ℕ) (lent : Lent) (values marks : List ℕ) → Taken s lent → points_in s ≤ length values
    → marks_long (points_in s) ≤ length marks
    → parts_read s lent values marks ≡ parts_in s lent

-- s reads back to the parts w: it is taken, its parts are w, and reading it into lists with room hands out w
pub record Returned (w : Parts) (s : List ℕ) : Type 0 where
  pub taken : Taken s w.lent
  pub parts : parts_in s w.lent ≡ w
  pub tells : (values marks : List ℕ) → points_for w ≤ length values → marks_long (points_for w) ≤ length marks
      → Tells s w.lent values marks w

-- "Writing gives a message that reads back to the same parts with the same stored bitmap lent"
abbrev pub ReadAfterWrite : Type 0
ReadAfterWrite =
    (w : Parts) (out : List ℕ) → FoundFits w.form.grid → NumberFits w.form.bitmap → w.scale.r < 2 ^ 32
    → T (accepted (write_refusal w out))
    → Returned w (handed (write_of w out) (output_after w out))

-- and so over two calls: what writing left in the lent output, read with the same bitmap lent, hands out the parts that
-- were given
abbrev pub WriteThenRead : Type 0
WriteThenRead =
    (w : Parts) (out values marks : List ℕ) → FoundFits w.form.grid → NumberFits w.form.bitmap
    → w.scale.r < 2 ^ 32
    → T (accepted (write_refusal w out)) → points_for w ≤ length values → marks_long (points_for w) ≤ length marks
    → let s = handed (write_of w out) (output_after w out) in
    ((read_of s w.lent values marks).refusal ≡ refusal 0) × (parts_read s w.lent values marks ≡ w)

-- "Reading and then writing gives the same octets when padding and reserved octets are zero and no signed field .. is
-- minus zero"
abbrev pub WriteAfterRead : Type 0
WriteAfterRead =
    (s out : List ℕ) (lent : Lent) → Below 256 s → Taken s lent → T (canonical s lent) → length s ≤ length out
    → let w = parts_in s lent in T (accepted (write_refusal w out)) × (handed (write_of w out) (output_after w out) ≡ s)

-- and so over two calls: what reading handed out, written, is the message
abbrev pub ReadThenWrite : Type 0
ReadThenWrite =
    (s out : List ℕ) (lent : Lent) (values marks : List ℕ) → Below 256 s → Taken s lent → T (canonical s lent)
    → points_in s ≤ length values → marks_long (points_in s) ≤ length marks → length s ≤ length out
    → let w = parts_read s lent values marks in
    ((read_of s lent values marks).refusal ≡ refusal 0) × T (accepted (write_refusal w out))
    × (handed (write_of w out) (output_after w out) ≡ s)

-- and only then: the octets that the writer has for the parts read are those that were read
abbrev pub WriteAfterReadExactly : Type 0
WriteAfterReadExactly =
    (s : List ℕ) (lent : Lent) → Below 256 s → Taken s lent → T (canonical s lent) ↔ (message (parts_in s lent) ≡ s)

-- and none of the conditions can be left out, of any kind of grid whose rows are not thinned: for each there is a
-- message of octets on such a grid that is taken, breaks that one alone, and does not come back. (An octant's longitudes
-- are never 0, so that they have no minus zero.) How many conditions a table has: one for each angle and each reserved
-- column
abbrev pub sort_stains : Sort → ℕ
sort_stains carried = 0
sort_stains needed = 0
sort_stains distance = 0
sort_stains side = 0
sort_stains latitude = 1
sort_stains longitude = 1
sort_stains kept = 1

abbrev pub table_stains : List Column → ℕ
table_stains [] = 0
table_stains (c ∷ cs) = sort_stains c.sort + table_stains cs

-- and a message: these, the bitmap's padding, E, and the data's padding
abbrev pub stains_of : Kind → ℕ
stains_of kind = table_stains (columns kind) + 3

-- of n conditions, counted from i on, number k alone
abbrev pub only : ℕ → ℕ → ℕ → List Bool
only i zero k = []
only i (suc n) k = eqb k i ∷ only (suc i) n k

pub record Stained (kind : Kind) (k : ℕ) : Type 0 where
  pub s : List ℕ
  pub lent : Lent
  pub octets : Below 256 s
  pub taken : Taken s lent
  pub kind-is : kind_at s (places_of s).gds ≡ kind
  pub alone : stains s lent ≡ only 0 (stains_of kind) k
  pub lost : message (parts_in s lent) ≡ s → ⊥

abbrev pub StainsNeeded : Type 0
StainsNeeded = (kind : Kind) → (kind ≡ thinned → ⊥) → (k : ℕ) → k < stains_of kind → Stained kind k

-- "29-32 reserved, .. written zero", "Padding bits are .. written zero", minus zero "is written as plus zero": whatever
-- is written has none of the stains. (Of D, in the PDS given, and of R the octets are written as given; `stains` speaks
-- of neither)
abbrev pub WrittenCanonical : Type 0
WrittenCanonical =
    (w : Parts) (out : List ℕ) → FoundFits w.form.grid → NumberFits w.form.bitmap → w.scale.r < 2 ^ 32
    → T (accepted (write_refusal w out))
    → T (canonical (handed (write_of w out) (output_after w out)) w.lent)

-- "29-32 reserved, ignored on reading", and so of each kind its own; "Padding bits are ignored on reading": the bit
-- places of a message that are these
abbrev pub Within : ℕ → ℕ → ℕ → Type 0
Within from n i = (from ≤ i) × (i < from + n)

abbrev pub is_reserved : Sort → Bool
is_reserved carried = false
is_reserved needed = false
is_reserved distance = false
is_reserved side = false
is_reserved latitude = false
is_reserved longitude = false
is_reserved kept = true

-- of a section at place g, by its table
abbrev pub InReserved : List Column → ℕ → ℕ → Type 0
InReserved [] g i = ⊥
InReserved (c ∷ cs) g i =
    (T (is_reserved c.sort) × Within ((g + (c.first - 1)) * 8) (c.width * 8) i) ⊎ InReserved cs g i

abbrev pub data_bits : List ℕ → Lent → ℕ
data_bits s lent = present_count s lent * (packing_in s).bits

pub data Ignored (s : List ℕ) (lent : Lent) (i : ℕ) : Type 0 where
  reserved : T (the_has_grid s pds_start)
      → InReserved (columns (kind_at s (places_of s).gds)) (places_of s).gds.start i
      → Ignored s lent i
  bitmap : bitmap_in s ≡ Carried
      → Within (((places_of s).bms.start + bms_head) * 8 + points_in s) (octet s (places_of s).bms.start 4) i
      → Ignored s lent i
  padding : Within (((places_of s).bds.start + bds_head) * 8 + data_bits s lent)
      (8 * ((places_of s).bds.len - bds_head) - data_bits s lent) i
      → Ignored s lent i

-- whatever stands there, the message is taken and has the same parts
abbrev pub PaddingIgnored : Type 0
PaddingIgnored =
    (s o : List ℕ) (lent : Lent) → Below 256 s → Below 256 o → length o ≡ length s
    → ((i : ℕ) → (Ignored s lent i → ⊥) → bits_in 8 o i ≡ bits_in 8 s i)
    → Taken s lent → Taken o lent × (parts_in o lent ≡ parts_in s lent)

-- "n = Ni × Nj", at most 65,536, "GDS 42 octets", "The GDS is 178 octets" of 3,447 points: what is written fits the
-- octets that the faces name (GRIB1_WRITTEN_MOST): an indicator, a PDS, a GDS, a bitmap and data of the most points, and
-- the end
abbrev pub written_most : ℕ
written_most =
    8 + pds_most + long_length + even_from (bms_head + octets_for points_most)
    + even_from (bds_head + octets_for (points_most * the_bits_most)) + 4

abbrev pub WrittenFits : Type 0
WrittenFits =
    (w : Parts) (out : List ℕ) → NumberFits w.form.bitmap → w.scale.r < 2 ^ 32 → T (accepted (write_refusal w out))
    → length (message w) ≤ written_most

-- what a caller lends by: where writing takes the parts, or lacks nothing but room for them (14), the length told
-- beforehand by all but E, R and the values is the message's
abbrev pub LengthTold : Type 0
LengthTold =
    (w : Parts) (out : List ℕ) → (write_refusal w out ≡ refusal 0) ⊎ (write_refusal w out ≡ refusal 14)
    → length_for w.pds w.form w.lent w.marks ≡ record { refusal = refusal 0; len = length (message w) }

-- and so for packing
abbrev pub PackLengthTold : Type 0
PackLengthTold =
    (pds : List ℕ) (form : Form) (lent : Lent) (f : Source) (out : List ℕ)
    → (pack_refusal pds form lent f out ≡ refusal 0) ⊎ (pack_refusal pds form lent f out ≡ refusal 14)
    → length_for pds form lent f.marks ≡ record { refusal = refusal 0; len = length (message (packed_parts pds form lent f)) }
