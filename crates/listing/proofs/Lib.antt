-- The laws of written text.
pub mod Writes
pub mod Digits
pub mod Signs
pub mod Cells
pub mod Listed
