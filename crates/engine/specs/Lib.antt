-- One event, on machines and in words.
pub mod Machine
pub mod Machines
pub mod Plan
pub mod Prepared
pub mod Walk
pub mod Showing
pub mod Runs
pub mod Packed
