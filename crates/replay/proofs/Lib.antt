-- From the records of a log, and from what translating and reading answer, to what replaying promises.
pub mod Following
pub mod Replaying
