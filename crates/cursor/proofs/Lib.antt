pub mod Groups
pub mod Looks
pub mod Answers
