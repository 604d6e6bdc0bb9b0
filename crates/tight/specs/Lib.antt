-- What it is for a contract to allow one result alone.
pub mod Tight
