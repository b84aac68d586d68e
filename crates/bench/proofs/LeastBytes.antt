-- The bytes that the search finds are the least.
pub mod InOrder
pub mod Holding
pub mod Finding
