-- The network of a sheet against the sheet's own definition.
pub mod Shown
pub mod Meant
pub mod Demand
pub mod Realises
pub mod Card
pub mod Rows
