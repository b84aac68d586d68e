-- One event in words: the row of calls, and the functions of `event`, `row` and `advance`.
pub mod Entries
pub mod Chains
pub mod Rowing
pub mod Refused
pub mod Arming
pub mod Taking
pub mod Failing
pub mod Answering
pub mod Calls
