-- The rows written so far are the first r lines. Room: each has at most eleven letters for each column (Cells).
use Rattle.rules.specs.Bitmap.{mark_of}
use Rattle.rules.specs.Listing.{joined_to, row_line}
use Rattle.listing.specs.Text.{Wrote}
use Rattle.listing.proofs.rows.rows.Given as goal

abbrev pub invariant-loop-r : goal.invariant-loop-r
invariant-loop-r l =
    Wrote l.initial.text l.text l.at l.next (joined_to (row_line (mark_of l.marks) l.values l.g) l.r)
