-- The records of the C face for what is said of a bitmap in force and of a point: which number of an answer each field
-- is.
pub mod Records
