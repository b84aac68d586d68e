-- What the functions for those who embed answer.
pub mod Codes
