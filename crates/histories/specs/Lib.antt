pub mod Histories
pub mod Order
pub mod Day
