pub mod Points
pub mod Bitmaps
