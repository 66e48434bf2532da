pub mod View
pub mod Classes
pub mod Entries
pub mod Choices
