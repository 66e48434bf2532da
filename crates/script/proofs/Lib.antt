pub mod Digits
pub mod Splitting
pub mod Decimals
pub mod Letters
pub mod Meanings
pub mod Examples
