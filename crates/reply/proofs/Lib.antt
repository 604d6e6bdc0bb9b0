pub mod Stages
pub mod Judged
