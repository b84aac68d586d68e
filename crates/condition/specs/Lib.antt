-- The grammar and the meaning of conditions, values and actions (document 01, "Conditions and values").
pub mod Word
pub mod Tree
pub mod Parse
pub mod Meaning
pub mod Count
pub mod Answer
pub mod Rows
pub mod Claims
pub mod Walk
