-- The plan of accepted bytes carries their machine.
pub mod Texts
pub mod Numbered
pub mod Carried
pub mod OnSheets
pub mod OnNetworks
