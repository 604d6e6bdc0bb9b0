-- What a message is given, its parts in order, and what is laid down around its values.
pub mod Given
pub mod Layout
pub mod Framing
