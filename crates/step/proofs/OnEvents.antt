-- Events: what they are refused for, what they leave, what they come to.
pub mod Causes
pub mod Refusing
pub mod Moving
pub mod Runs
pub mod Entries
pub mod Following
pub mod Bridge
pub mod Counts
