-- The reader's rows 1 to 12 as twelve named facts, there and back, with document 01's row 5 for the walk of R-2, and in
-- the groups that code judges, by the definitions: nothing else looks at its table by position.
use mathlib.Core.Bool.{true, false, ◌&&◌}
use mathlib.Core.Path.{◌≡◌, refl}
use mathlib.Core.List.{List}
use Prim.Native.Nat.{ℕ}
use lib.Dec.{T}
use Rattle.rules.specs.Table.{refusal, accepted, any_of}
use Rattle.rules.specs.Places.{pds_start, the_end_start, the_has_grid, the_has_bitmap, places_of, the_size_bad, the_grib_bad, the_edition_bad}
use Rattle.rules.specs.Places.{total_faults}
use Rattle.rules.specs.Walk.{section_rows, walk_rows, walk_of}
use Rattle.rules.specs.Time.{time_faults}
use Rattle.rules.specs.Grid.{the_grid_missing, grid_or_zeros, the_gds_bad, grid_faults}
use Rattle.rules.specs.Bitmap.{Lent, bitmap_faults}
use Rattle.rules.specs.Values.{packing_faults, the_length_bad}
use Rattle.rules.specs.Reading.{grid_of, points_in, bitmap_in, present_count, packing_in}
use Rattle.rules.specs.Reading.{parsed_of, message_table, own_refusal, read_table, read_refusal}
use Rattle.laws.specs.Groups.{layout_rows, grid_rows, data_rows, earlier_rows}
use Rattle.laws.specs.Tables.{Clear, RowsInGroups}
use Rattle.laws.specs.Lengths.{lengths_bad}
use Rattle.laws.specs.Taken.{Taken}
use Rattle.laws.proofs.Rows.{Numbered, numbered-append, zero_of, clear, clear-parts, clear-join, accepts}
use Rattle.laws.proofs.Rows.{taken-by}
use Rattle.laws.proofs.Walk.{walk_as_row}

pub record Judged (s : List ℕ) (lent : Lent) : Type 0 where
  pub size : the_size_bad s ≡ false
  pub mark : the_grib_bad s ≡ false
  pub edition : the_edition_bad s ≡ false
  pub total : any_of (total_faults s) ≡ false
  pub lengths : lengths_bad s ≡ false
  pub time : any_of (time_faults s pds_start) ≡ false
  pub found : the_grid_missing (grid_of s) ≡ false
  pub gds : (the_has_grid s pds_start && the_gds_bad s (places_of s).gds) ≡ false
  pub grid : any_of (grid_faults (grid_or_zeros (grid_of s))) ≡ false
  pub bitmap : any_of (bitmap_faults s lent (places_of s).bms (bitmap_in s) (points_in s)) ≡ false
  pub packing : any_of (packing_faults (packing_in s)) ≡ false
  pub length : the_length_bad s (places_of s).bds (present_count s lent) (packing_in s) ≡ false

pub rows_in_groups : RowsInGroups
unfolding message_table walk_of walk_rows section_rows earlier_rows layout_rows grid_rows data_rows parsed_of
rows_in_groups s lent = refl

-- acceptance's number is no row's
pub own-numbered : (s : List ℕ) (lent : Lent) → Numbered (message_table s lent)
unfolding message_table walk_of walk_rows section_rows
own-numbered s lent = tt

pub read-numbered : (s : List ℕ) (lent : Lent) (values marks : List ℕ) → Numbered (read_table s lent values marks)
unfolding read_table
read-numbered s lent values marks = numbered-append (message_table s lent) _ (own-numbered s lent) tt

pub rows : (s : List ℕ) (lent : Lent) → Taken s lent → Clear (message_table s lent)
unfolding own_refusal
rows s lent t = clear (message_table s lent) (own-numbered s lent) t

-- what of a table that goes on after row 12 is accepted is taken
pub read_taken : (s : List ℕ) (lent : Lent) (values marks : List ℕ) → T (accepted (read_refusal s lent values marks))
    → Taken s lent
unfolding own_refusal read_refusal read_table
read_taken s lent values marks t =
    let h = clear (read_table s lent values marks) (read-numbered s lent values marks) t in
    taken-by _ (accepts (message_table s lent) (clear-parts (message_table s lent) _ h).0)

-- where they accept, the reply is refusal 0
pub own-zero : (s : List ℕ) (lent : Lent) → accepted (own_refusal s lent) ≡ true → own_refusal s lent ≡ refusal 0
unfolding own_refusal
own-zero s lent = zero_of (message_table s lent) (own-numbered s lent)

pub read-zero : (s : List ℕ) (lent : Lent) (values marks : List ℕ) → accepted (read_refusal s lent values marks) ≡ true
    → read_refusal s lent values marks ≡ refusal 0
unfolding read_refusal
read-zero s lent values marks = zero_of (read_table s lent values marks) (read-numbered s lent values marks)

pub judged : (s : List ℕ) (lent : Lent) → Taken s lent → Judged s lent
unfolding message_table walk_of lengths_bad
judged s lent t =
    let a = rows s lent t in
    let w = clear-parts (walk_of s) _ a.1.1.1.1 in
    let b = w.1 in
    record {
      size = a.0;
      mark = a.1.0;
      edition = a.1.1.0;
      total = a.1.1.1.0;
      lengths = (walk_as_row (the_end_start s) (the_has_grid s pds_start) (the_has_bitmap s pds_start) (places_of s)).0 w.0;
      time = b.0;
      found = b.1.0;
      gds = b.1.1.0;
      grid = b.1.1.1.0;
      bitmap = b.1.1.1.1.0;
      packing = b.1.1.1.1.1.0;
      length = b.1.1.1.1.1.1.0;
    }

pub unjudged : (s : List ℕ) (lent : Lent) → Judged s lent → own_refusal s lent ≡ refusal 0
unfolding own_refusal message_table walk_of lengths_bad
unjudged s lent h =
    let w = (walk_as_row (the_end_start s) (the_has_grid s pds_start) (the_has_bitmap s pds_start) (places_of s)).1 h.lengths in
    accepts (message_table s lent) (
      h.size,
      (
        h.mark,
        (
          h.edition,
          (
            h.total,
            clear-join (walk_of s) _ w
                (h.time, (h.found, (h.gds, (h.grid, (h.bitmap, (h.packing, (h.length, tt))))))),
          ),
        ),
      ),
    )
