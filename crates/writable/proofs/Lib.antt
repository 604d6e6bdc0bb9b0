-- The rows as code judges them, the rows by the marks alone, and what the rows leave once none but 14 can apply.
pub mod Judged
pub mod Marked
pub mod Points
pub mod Accepted
