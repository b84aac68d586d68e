-- The engine's laws.
pub mod InWords
pub mod OnMachines
pub mod MachineCarried
pub mod Plans
pub mod OverLogs
pub mod Packed
