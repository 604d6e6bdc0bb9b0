-- Marks as bits, a turn of the loops that gather, what is gathered, and a list taken a chunk at a time.
pub mod Here
pub mod Gathered
pub mod Chunks
