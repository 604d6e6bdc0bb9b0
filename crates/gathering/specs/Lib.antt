-- What gathering the values at present points leaves in the list that they are gathered into.
pub mod Gather
