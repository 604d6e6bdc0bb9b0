-- The words in which the laws speak of what acceptance leaves: of a table, of a signed field, of the cells of a grid
-- section, of a point's mark, of a message, of a source field.
pub mod Groups
pub mod Tables
pub mod Lengths
pub mod Signs
pub mod Cells
pub mod Marks
pub mod Taken
pub mod Sources
