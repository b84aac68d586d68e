-- The monitor on a sheet, and the published definition of its verdicts.
pub mod Monitor
pub mod Published
pub mod Sound
pub mod Padded
pub mod Answers
pub mod Demand
pub mod Claims
pub mod Rows
pub mod Walk
pub mod Packed
