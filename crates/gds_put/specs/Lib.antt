-- The fields of a grid section in the groups in which they are put, and what putting a section leaves.
pub mod Section
