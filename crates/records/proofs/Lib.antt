-- What the records' proofs share, and what is proved of the records that come in.
pub mod Named
pub mod Made
