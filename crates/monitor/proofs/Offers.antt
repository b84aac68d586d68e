-- Offering an event by way of the engine.
pub mod Answering
pub mod Machined
pub mod Packed
