-- The proofs, from the general to the particular: octets placed, rooms, marks, sections, what is laid down around the
-- values, the end of the data, what the rows leave, the message, and its length told beforehand.
pub mod Placing
pub mod Lengths
pub mod Marks
pub mod Sections
pub mod Framed
pub mod Gathered
pub mod Ending
pub mod Ready
pub mod Message
pub mod Foretold
