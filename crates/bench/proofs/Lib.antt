-- Laws of test conditions.
pub mod Tests
pub mod ByteOrder
pub mod Searches
pub mod LeastBytes
pub mod Grammar
pub mod Answering
pub mod Claims
pub mod Numbers
