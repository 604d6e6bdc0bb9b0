pub mod Puts
pub mod Laying
pub mod Contracts
