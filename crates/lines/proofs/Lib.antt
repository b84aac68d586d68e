-- What the lines of the program are.
pub mod Texts
pub mod Decimals
pub mod Saying
pub mod Printing
pub mod Claims
pub mod Rows
