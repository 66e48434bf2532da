pub mod Makes
pub mod Asks
