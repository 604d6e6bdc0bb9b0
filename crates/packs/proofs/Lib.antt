pub mod Over
pub mod Small
pub mod Numbers
pub mod Bits
pub mod Lists
pub mod Contracts
