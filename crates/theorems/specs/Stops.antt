-- Document 02, R-2: what a reply of 20 to 23 is beside document 01's 5, what it tells, and that no other reply tells
-- anything.
use Rattle.std.specs.Prelude.{ℕ, ◌<◌, ◌≤◌, ◌≡◌, ◌↔◌, ◌⊎◌, ◌&&◌, List, [], ◌∷◌, get_or}
use Rattle.rules.specs.declared.{Refusal.Refusal, Form.Form, Spot.Spot}
use Rattle.rules.specs.Table.{Row, row, refusal, any_of, first}
use Rattle.rules.specs.Places.{no_part, after, pds_start, the_end_start, the_has_grid, places_of, sections_of, the_size_bad, the_grib_bad}
use Rattle.rules.specs.Places.{the_edition_bad, total_faults}
use Rattle.rules.specs.Walk.{place_of}
use Rattle.rules.specs.Time.{time_faults}
use Rattle.rules.specs.Grid.{the_gds_bad, the_grid_missing, grid_or_zeros, grid_faults}
use Rattle.rules.specs.Bitmap.{Lent, bitmap_faults}
use Rattle.rules.specs.Values.{packing_faults, the_length_bad}
use Rattle.rules.specs.Reading.{grid_of, points_in, bitmap_in, present_count, packing_in, own_refusal, read_refusal}
use Rattle.rules.specs.Cursor.{index_refusal, cursor_refusal}
use Rattle.rules.specs.Display.{display_of}
use Rattle.rules.specs.Writing.{Parts, write_refusal}
use Rattle.rules.specs.Checking.{Source, check_of}
use Rattle.rules.specs.Packing.{pack_refusal}
use Rattle.laws.specs.Lengths.{lengths_bad}
use Rattle.theorems.specs.Replies.{Among}

-- the numbers that R-2 gives in the place of 5
abbrev pub stops : List ℕ
stops = 20 ∷ 21 ∷ 22 ∷ 23 ∷ []

-- the reader's table as document 01 has it, and R-1 amends its 8 and 9 and R-3 its 6, with one row for all section
-- lengths
unfoldable pub former_table : List ℕ → Lent → List Row
former_table s lent =
    row 1 (the_size_bad s)
    ∷ row 2 (the_grib_bad s)
    ∷ row 3 (the_edition_bad s)
    ∷ row 4 (any_of (total_faults s))
    ∷ row 5 (lengths_bad s)
    ∷ row 6 (any_of (time_faults s pds_start))
    ∷ row 7 (the_grid_missing (grid_of s))
    ∷ row 8 (the_has_grid s pds_start && the_gds_bad s (places_of s).gds)
    ∷ row 9 (any_of (grid_faults (grid_or_zeros (grid_of s))))
    ∷ row 10 (any_of (bitmap_faults s lent (places_of s).bms (bitmap_in s) (points_in s)))
    ∷ row 11 (any_of (packing_faults (packing_in s)))
    ∷ row 12 (the_length_bad s (places_of s).bds (present_count s lent) (packing_in s))
    ∷ []

-- "5 becomes 20 to 23": a message is refused by one of these exactly when document 01's 5 refused it, and every other
-- message, taken or refused by 1 to 4 or 6 to 12, has the reply that it had
pub record LengthsSplit (s : List ℕ) (lent : Lent) : Type 0 where
  pub five : (first (former_table s lent) ≡ refusal 5) ↔ Among (own_refusal s lent).number stops
  pub others : (first (former_table s lent) ≡ refusal 5 → ⊥) → own_refusal s lent ≡ first (former_table s lent)

abbrev pub FiveSplit : Type 0
FiveSplit = (s : List ℕ) (lent : Lent) → LengthsSplit s lent

-- "each with the section's number and its first octet's place in the message", "23 names section 5 and the first octet
-- left over": what is told lies in the message, from the PDS's first octet to the end section's, and is where the walk
-- had got to
pub record StopTold (s : List ℕ) (r : Refusal) : Type 0 where
  pub least : 1 ≤ r.section
  pub most : r.section ≤ 5
  pub from : place_of pds_start ≤ r.place
  pub to : r.place ≤ place_of (the_end_start s)
  pub section : r.section ≤ 4 → r.place ≡ place_of (get_or (sections_of s) r.section no_part).start
  pub left : r.section ≡ 5 → (r.number ≡ 23) × (r.place ≡ place_of (after (places_of s).bds))
  pub over : r.number ≡ 23 → (r.section ≡ 5) × (r.place < place_of (the_end_start s))

abbrev pub StopsTold : Type 0
StopsTold = (s : List ℕ) (lent : Lent) → Among (own_refusal s lent).number stops → StopTold s (own_refusal s lent)

-- "They alone return two fields that may not be zero": a reply is one of 20 to 23, or its number is all of it
abbrev pub TellsAlone : Refusal → Type 0
TellsAlone r = Among r.number stops ⊎ (r ≡ refusal r.number)

-- of all that answer by the reader's table; "The writer keeps 5", and so does the packer: neither tells anything
pub record StopsToldAlone : Type 0 where
  pub header : (s : List ℕ) (lent : Lent) → TellsAlone (own_refusal s lent)
  pub read : (s : List ℕ) (lent : Lent) (values marks : List ℕ) → TellsAlone (read_refusal s lent values marks)
  pub display : (s : List ℕ) (lent : Lent) → TellsAlone (display_of s lent).refusal
  pub index : (s : List ℕ) (lent : Lent) (index : List ℕ) → TellsAlone (index_refusal s lent index)
  pub cursor : (s : List ℕ) (lent : Lent) (index : List ℕ) (c : Spot) → TellsAlone (cursor_refusal s lent index c)
  pub check : (s : List ℕ) (lent : Lent) (f : Source) → TellsAlone (check_of s lent f)
  pub write : (w : Parts) (out : List ℕ) → write_refusal w out ≡ refusal (write_refusal w out).number
  pub pack : (pds : List ℕ) (form : Form) (lent : Lent) (f : Source) (out : List ℕ)
      → pack_refusal pds form lent f out ≡ refusal (pack_refusal pds form lent f out).number
