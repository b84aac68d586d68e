-- States with and without padding, and that they stay sound.
pub mod Living
pub mod Views
pub mod Ordering
pub mod Created
pub mod Soundness
pub mod Lasting
pub mod Starting
pub mod Counted
