-- The records of the C face: which number of an answer each field is, and what the records that come in stand for.
pub mod Records
pub mod Forms
