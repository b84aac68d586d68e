-- The loops that read, from the code's places and tests to the definitions.
pub mod Loops
pub mod Widths
pub mod Found
pub mod Tallies
pub mod Indexing
pub mod Suits
pub mod Refusals
pub mod Logs
