-- Demand 3: the network of a sheet does what the definition says of the sheet. Below each theorem stand the laws that serve it.
pub mod Translation
pub mod Agreement
pub mod Card
pub mod Rows
