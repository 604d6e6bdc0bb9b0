-- What the packer puts, and the rows that it judges first.
pub mod Scaled
