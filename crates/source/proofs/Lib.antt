pub mod Reference
pub mod Digits
pub mod Blocks
pub mod Field
