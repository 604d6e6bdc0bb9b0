-- R as a whole number, answered for every input.
pub mod Whole
pub mod Present
