-- The laws, from the general to the particular.
-- tables, fields and numbers
pub mod Rows
pub mod Fields
pub mod Whole
pub mod Flags
pub mod Signs
pub mod Lead
pub mod Columns
pub mod Counts
pub mod Charts
pub mod Grids
-- what a taken message is
pub mod Walk
pub mod Judged
pub mod Sections
pub mod Bounded
pub mod Data
pub mod Cursors
-- what the writer's parts are
pub mod Lengths
pub mod Gathered
pub mod Points
-- the check and the packer
pub mod Sources
pub mod Agreed
pub mod Lowest
pub mod Steps
