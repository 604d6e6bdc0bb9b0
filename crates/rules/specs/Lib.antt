-- The meaning of document 01, a file for each of its parts, in its order, with R-1 to R-4 of document 02 where they
-- amend them, and R-6 in a file of its own (Cursor).
-- How names end (docs/GLOSSARY.md has the exceptions). At: read at a place of the octets, or at a point. In: what a
-- message says, of its octets and the lent bitmap. Of: the answer of a public function (header_of, write_of), or of one
-- thing another that follows from it. By: as the first argument decides. For: what the writer makes for the parts
-- given. After: a lent list after the call. Faults: the tests of one row, as a list; Bad: one test. Rows: some rows of
-- a table, judged together; Table: all rows of one function; Refusal: the reply that a table gives. Fields: the fields
-- of a section, to be written; Stains: what writing them again loses. On: of a shape; Among: of rows by their counts.
-- Least, Most: a bound, both ends allowed. Given: whether there is one. no..: the value where there is nothing.
pub mod Bounds
pub mod Numbers
pub mod Table
pub mod Answers
pub mod Places
pub mod Walk
pub mod Time
pub mod Counts
pub mod Chart
pub mod Columns
pub mod Layouts
pub mod Figures
pub mod Grid
pub mod Bitmap
pub mod Points
pub mod Values
pub mod Reading
pub mod Cursor
pub mod Display
pub mod Writing
pub mod RoundTrip
pub mod Checking
pub mod Packing
pub mod Listing
