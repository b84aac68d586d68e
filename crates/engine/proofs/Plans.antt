-- Making a plan, and what the plan of accepted bytes holds.
pub mod Storing
pub mod Linking
pub mod Preparing
pub mod Kept
pub mod Spacing
pub mod Parts
pub mod Queued
pub mod Turned
pub mod Planned
