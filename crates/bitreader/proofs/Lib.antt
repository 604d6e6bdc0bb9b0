pub mod Many
pub mod Places
