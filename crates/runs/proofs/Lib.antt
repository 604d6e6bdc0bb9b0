pub mod Bits
pub mod Lists
pub mod Parts
pub mod Tallies
