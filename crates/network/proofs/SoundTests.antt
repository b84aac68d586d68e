-- The tests of a sound state.
pub mod Templates
pub mod Checks
pub mod Counting
pub mod Holding
