pub mod Lines
pub mod Feeding
