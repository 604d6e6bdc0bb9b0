-- What the tests decide, blocks packed one after another, and how far the values are after each.
pub mod Fitting
pub mod Parts
pub mod Settled
pub mod Append
pub mod Passing
pub mod Chunks
