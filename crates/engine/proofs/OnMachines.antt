-- One event in words is one on the machine that is shown; machines that are alike.
pub mod Keeps
pub mod Shown
pub mod Counted
pub mod Alike
pub mod Candidates
