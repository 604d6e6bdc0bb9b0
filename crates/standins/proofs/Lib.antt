pub mod Ours
pub mod Rejected
