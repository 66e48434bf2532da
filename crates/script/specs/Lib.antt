pub mod Fields
pub mod Numerals
pub mod Lines
pub mod Scanning
