-- What a list of marks says of n points, and how it goes to a bitmap and comes from one.
pub mod Marks
