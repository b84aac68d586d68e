-- The laws that the functions' proofs and the layers above cite.
pub mod Tests
pub mod Tables
pub mod Readers
pub mod Encoding
pub mod Accepted
pub mod Placed
pub mod Answers
pub mod Limits
pub mod Rows
pub mod Claims
