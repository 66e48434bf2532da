mod Room
mod Turns
