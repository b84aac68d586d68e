-- A sheet's network (document 01, "Network layout and translation").
pub mod Translate
pub mod Card
pub mod Answer
pub mod Claims
pub mod Rows
pub mod Walk
pub mod CardWalk
