pub mod Shift
pub mod Finite
pub mod Laws
