-- What is written into a lent text.
pub mod Text
