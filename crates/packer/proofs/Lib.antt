-- The list of X and the packer's first rows, and its table.
pub mod Stepped
pub mod Packed
