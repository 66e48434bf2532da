pub mod Orders
pub mod Leasts
