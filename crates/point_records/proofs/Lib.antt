-- What the records' proofs share.
pub mod Made
