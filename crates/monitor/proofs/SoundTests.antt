-- The tests of a sound state.
pub mod Triples
pub mod Testing
pub mod Checks
