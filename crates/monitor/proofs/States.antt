-- States with and without padding, and that they stay sound.
pub mod Starting
pub mod Arming
pub mod Soundness
pub mod Views
pub mod Lasting
pub mod Counted
