-- Of a message: that it is taken, and that what is read of it then lies inside.
use Rattle.std.specs.Prelude.{ℕ, ◌+◌, ◌≤◌, ◌≡◌, cond, List, T, length}
use Rattle.rules.specs.Bounds.{pds_least, gds_least, bms_least, bds_least}
use Rattle.rules.specs.Table.{accepted}
use Rattle.rules.specs.Places.{after, pds_start, the_has_grid, the_has_bitmap, places_of}
use Rattle.rules.specs.Bitmap.{Lent}
use Rattle.rules.specs.Reading.{own_refusal, in_force_in}

-- the message is taken: its own refusals 1 to 12 give 0
abbrev pub Taken : List ℕ → Lent → Type 0
Taken s lent = T (accepted (own_refusal s lent))

-- every fixed field of a taken message lies in its section: no answer leans on the 0 past the end, nor on a difference
-- cut at 0
pub record Inside (s : List ℕ) : Type 0 where
  pub pds : pds_least ≤ (places_of s).pds.len
  pub gds : T (the_has_grid s pds_start) → gds_least ≤ (places_of s).gds.len
  pub bms : T (the_has_bitmap s pds_start) → bms_least ≤ (places_of s).bms.len
  pub bds : bds_least ≤ (places_of s).bds.len
  pub end : after (places_of s).bds + 4 ≡ length s

abbrev pub ReadsInside : Type 0
ReadsInside = (s : List ℕ) (lent : Lent) → Taken s lent → Inside s

-- and so do the octets that hold the bitmap in force, in the slice they are part of
abbrev pub BitmapInside : Type 0
BitmapInside =
    (s : List ℕ) (lent : Lent) → Taken s lent
    → after (in_force_in s).part ≤ length (cond (in_force_in s).stored lent.octets s)
