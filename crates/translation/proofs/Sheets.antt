-- Writing a sheet's network.
pub mod Texts
pub mod Counting
pub mod Filling
pub mod Tabling
pub mod Pairing
pub mod Adding
pub mod Putting
