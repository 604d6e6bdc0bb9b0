-- The kinds of sections as the code tells them.
pub mod Kinds
