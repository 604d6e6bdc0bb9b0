-- Values on their way into octets, a block of them at a time.
pub mod Block
pub mod Passed
