-- The engine on a network of plain automata.
pub mod Network
pub mod Sound
pub mod Padded
pub mod Grouped
pub mod Packed
pub mod Answers
pub mod Claims
pub mod Walk
