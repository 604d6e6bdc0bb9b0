pub mod Distances
pub mod Stepping
pub mod Walked
pub mod Folded
pub mod Choosing
