-- Offering an event by way of the engine; values at entry.
pub mod Entries
pub mod Answering
pub mod Grouping
pub mod Packed
pub mod Packing
