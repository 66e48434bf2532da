pub mod Orderly
