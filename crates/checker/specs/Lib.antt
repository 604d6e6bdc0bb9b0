-- The checker's own rows, and what its loops ask of a point.
pub mod Stages
pub mod Points
