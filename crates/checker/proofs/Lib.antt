pub mod Distance
pub mod Agreement
pub mod Far
pub mod Present
pub mod Rows
pub mod Stages
