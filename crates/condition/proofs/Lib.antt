-- The laws that the functions' proofs and the layers above cite.
pub mod Answering
pub mod Claims
pub mod Counting
pub mod Ends
pub mod Evaluating
pub mod Naming
pub mod Parsing
pub mod Placed
pub mod Rows
pub mod Running
pub mod Walking
pub mod Words
