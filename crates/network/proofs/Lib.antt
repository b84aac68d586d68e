-- The engine on a network: which states are sound, what they show, what an event makes of them, and what the functions' proofs cite.
pub mod States
pub mod SoundTests
pub mod Offers
pub mod ByMachine
