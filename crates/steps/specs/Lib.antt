-- X of many numbers.
pub mod Steps
