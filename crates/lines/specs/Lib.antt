-- The two lines that the program prints.
pub mod Text
pub mod Lines
pub mod Claims
pub mod Rows
pub mod Walk
