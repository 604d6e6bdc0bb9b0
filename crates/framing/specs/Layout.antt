-- The message's parts in the order in which they are laid down, and how many octets each takes.
use Rattle.std.specs.Prelude.{ℕ, ◌+◌, ◌-◌, ◌*◌, List, [], ◌∷◌, ◌++◌, length, None, Option, Some}
use Rattle.rules.specs.declared.{Bitmap.Bitmap, Grid.Grid}
use Rattle.rules.specs.declared.{Bitmap.TheVariants.Without, Bitmap.TheVariants.Carried, Bitmap.TheVariants.Stored}
use Rattle.rules.specs.declared.{Form.Form, Scale.Scale, Packing.Packing}
use Rattle.bits.specs.Bits.{octets_for, count}
use Rattle.rules.specs.Bounds.{pds_most, thinned_length, bms_head, bds_head, points_most, the_bits_most}
use Rattle.rules.specs.Numbers.{field, laid, joined, even_from}
use Rattle.rules.specs.Places.{sevens, pds_start}
use Rattle.rules.specs.Grid.{gds_length_of}
use Rattle.rules.specs.Bitmap.{bms_of}
use Rattle.rules.specs.Points.{gathered}
use Rattle.rules.specs.Values.{bds_fields, bds_of}
use Rattle.rules.specs.Writing.{gds_for, indicator_fields}
use Rattle.laws.specs.Marks.{here}

-- how many of n points the marks call present
unfoldable pub marked_count : List ℕ → ℕ → ℕ
marked_count marks n = count (here marks) 0 n

-- how many octets each section takes, of n points with m present
unfoldable pub gds_room : Option Grid → ℕ
gds_room None = 0
gds_room (Some g) = gds_length_of g

unfoldable pub the_bms_room : Bitmap → ℕ → ℕ
the_bms_room Without n = 0
the_bms_room Carried n = even_from (bms_head + octets_for n)
the_bms_room (Stored number) n = bms_head

unfoldable pub the_bds_room : ℕ → ℕ → ℕ
the_bds_room bits m = even_from (bds_head + octets_for (m * bits))

-- and all before the data section
unfoldable pub front_room : ℕ → Form → ℕ → ℕ
front_room pds form n = pds_start + (pds + (gds_room form.grid + the_bms_room form.bitmap n))

unfoldable pub the_message_room : ℕ → Form → ℕ → ℕ → ℕ
the_message_room pds form n m = front_room pds form n + (the_bds_room form.packing.bits m + 4)

-- and the most that any of them takes
abbrev pub bms_most : ℕ
bms_most = even_from (bms_head + octets_for points_most)

abbrev pub data_most : ℕ
data_most = points_most * the_bits_most

abbrev pub bds_most : ℕ
bds_most = even_from (bds_head + octets_for data_most)

abbrev pub room_most : ℕ
room_most = pds_start + (pds_most + (thinned_length + bms_most)) + (bds_most + 4)

-- the sections over presence and values as functions
unfoldable pub sections_by : List ℕ → Form → Scale → (ℕ → ℕ) → (ℕ → ℕ) → ℕ → List (List ℕ)
sections_by pds form scale present value n =
    pds
    ∷ gds_for form.grid
    ∷ bms_of form.bitmap present n
    ∷ bds_of form.packing scale (gathered present value n)
    ∷ laid (field 4 sevens ∷ []) []
    ∷ []

unfoldable pub message_by : List ℕ → Form → Scale → (ℕ → ℕ) → (ℕ → ℕ) → ℕ → List ℕ
message_by pds form scale present value n =
    let sections = joined (sections_by pds form scale present value n) in
    laid (indicator_fields (pds_start + length sections)) sections

-- the message up to its data section
unfoldable pub front_by : List ℕ → Form → (ℕ → ℕ) → ℕ → ℕ → List ℕ
front_by pds form present n len =
    laid (indicator_fields len) (pds ++ (gds_for form.grid ++ bms_of form.bitmap present n))

-- what stands before the data of a data section of m values
unfoldable pub head_by : Packing → Scale → ℕ → List ℕ
head_by packing scale m =
    let len = the_bds_room packing.bits m in
    laid (bds_fields len (8 * (len - bds_head) - m * packing.bits) packing scale) []
