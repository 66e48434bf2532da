pub mod Firsts
pub mod Orders
pub mod Words
