-- The laws that the functions' proofs and the engines cite.
pub mod OnLists
pub mod OnEvents
pub mod Claims
