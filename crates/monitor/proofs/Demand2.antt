-- Demand 2: the run's answer is that of the published definition.
pub mod Traces
pub mod Calls
pub mod StillOpen
pub mod Broken
pub mod Found
pub mod Published
pub mod Acceptance
pub mod Exclusive
pub mod Sentences
pub mod Rows
