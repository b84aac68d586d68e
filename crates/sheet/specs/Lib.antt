-- The layouts of sheets, networks and logs, and what reading them answers (document 01).
pub mod Bytes
pub mod Table
pub mod Parts
pub mod Decode
pub mod Reading
pub mod Log
pub mod Encode
pub mod Answer
pub mod Claims
pub mod Rows
pub mod Walk
