-- Offering the records of a log to a sheet's network.
pub mod Replay
pub mod Walk
