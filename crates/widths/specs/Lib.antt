-- What it means that no number of a list has more than so many bits.
pub mod Below
