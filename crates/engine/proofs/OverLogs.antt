-- A run in words is one on the machine.
pub mod Followed
pub mod Simulated
pub mod Ran
