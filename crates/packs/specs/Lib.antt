-- What is put into lent octets: one number, or a list of them packed. What does not fit leaves them as they were.
pub mod Place
pub mod Pack
pub mod Cover
