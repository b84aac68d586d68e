-- Test conditions for the card's bench (document 02, request 10).
pub mod Bench
pub mod Claims
pub mod Walk
