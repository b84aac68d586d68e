-- One event, as far as the engines on a sheet and on a network share it (document 01, "One event").
pub mod Lists
pub mod Meets
pub mod Moves
pub mod Calls
pub mod Verdicts
pub mod Walk
pub mod Padding
pub mod Runs
pub mod Answers
pub mod Claims
