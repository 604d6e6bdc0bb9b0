-- What is proved of the definitions of `rules`: the demands of document 00 in turn, each statement with the sentence it
-- renders.
pub mod Replies
pub mod Stops
pub mod Years
pub mod Reads
pub mod Returns
pub mod Checks
pub mod Kinds
pub mod Turns
pub mod Cursors
