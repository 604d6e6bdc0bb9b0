-- For each public function that its contract is tight: a file for each crate, each statement under its function's name.
pub mod Laws
-- octets, bits and replies
pub mod Choices
pub mod Reply
pub mod Octets
pub mod Widths
pub mod Runs
pub mod Packs
pub mod Puts
pub mod BareLoops
-- points by their marks
pub mod Marks
pub mod Gathering
pub mod Blocks
-- the grid
pub mod Octants
pub mod GridKinds
pub mod Chart
pub mod Catalogue
pub mod Grid
pub mod Gds
pub mod GdsPut
-- the reader
pub mod Time
pub mod MessageLayout
pub mod Bitmap
pub mod DataSection
pub mod Message
pub mod HandedBack
pub mod DataNumbers
pub mod Display
pub mod Bitreader
pub mod Field
pub mod Cursor
pub mod Listing
-- the source field, the check and the packer's choice
pub mod Source
pub mod Checker
pub mod Scaling
pub mod Steps
-- the writer and the packer
pub mod Writable
pub mod Framing
pub mod Writer
pub mod Packer
-- the C face
pub mod Records
pub mod PointRecords
pub mod Grib1
