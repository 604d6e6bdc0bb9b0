pub mod Spreading
pub mod Presence
pub mod Loops
pub mod Answers
