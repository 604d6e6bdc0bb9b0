-- Bits and tables, over any width and any list.
pub mod Tables
pub mod Bits
