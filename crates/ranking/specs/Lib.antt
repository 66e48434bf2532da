pub mod Orders
pub mod Candidates
