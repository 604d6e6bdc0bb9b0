-- What the functions that take runs of bits answer and leave. What does not fit leaves a list as it was.
pub mod Take
