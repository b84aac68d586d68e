-- The monitor against the published definition, and document 01's sample runs.
pub mod Demand2
pub mod States
pub mod SoundTests
pub mod Offers
