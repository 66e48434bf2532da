pub mod Members
pub mod Keys
pub mod Splits
pub mod Steps
