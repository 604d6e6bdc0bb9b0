-- The columns written so far are the first c words of the row's line. Room: each has at most eleven letters (Cells).
use Rattle.rules.specs.Listing.{joined_to}
use Rattle.listing.specs.Text.{Wrote}
use Rattle.listing.proofs.Cells.{word}
use Rattle.listing.proofs.rows.row.Given as goal

abbrev pub invariant-loop-c : goal.invariant-loop-c
invariant-loop-c l =
    Wrote l.initial.text l.text l.at l.next (joined_to (word l.values l.marks l.g l.r) l.c)
