-- The proofs, from the general to the particular.
-- tables, fields and numbers
pub mod Replies
pub mod Among
pub mod Stops
pub mod FiveSplit
pub mod StopPlaces
pub mod Lists
pub mod Tiles
-- the sections, each laid, read back and laid again
pub mod Laid
pub mod Cells
pub mod Octants
pub mod GridSection
pub mod BitmapSection
pub mod DataSection
-- reading, writing, and both round trips
pub mod Place
pub mod North
pub mod EachKind
pub mod Offered
pub mod Reoffered
pub mod Points
pub mod InTurn
pub mod Cursors
pub mod Told
pub mod ReadBack
pub mod Returned
pub mod Fitting
pub mod WriteBack
pub mod Calls
pub mod Exactly
pub mod Needed
pub mod Ignored
pub mod Shown
-- the check and the packer
pub mod Reference
pub mod Rounded
pub mod Spelled
pub mod Steps
pub mod Checked
pub mod Packs
pub mod PackReplies
-- the length told before the values are
pub mod Foretold
-- the spelling of a time, and what document 01 took of it
pub mod Years
