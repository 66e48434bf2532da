pub mod Sizes
pub mod Bits
pub mod Views
pub mod Pages
pub mod Least
pub mod Rows
pub mod Choices
pub mod Taking
