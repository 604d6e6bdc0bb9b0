-- The writer's rows in groups, and what they leave of the lists.
pub mod Rows
pub mod Listed
