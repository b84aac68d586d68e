-- What translating a sheet gives.
pub mod Rows
pub mod Claims
pub mod Writing
pub mod Sheets
pub mod Networks
pub mod Images
pub mod Cut
pub mod Cards
