-- What the functions over lent octets answer and leave, over any width. What does not fit leaves them as they were.
pub mod Put
