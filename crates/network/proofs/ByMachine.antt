-- A network is its machine, with checkers gathered by calls.
pub mod Bound
pub mod Apart
pub mod ByCalls
pub mod Runs
