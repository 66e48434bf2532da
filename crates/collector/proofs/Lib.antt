pub mod Sums
pub mod Sounds
pub mod Phases
pub mod Keeps
pub mod Scans
pub mod Moves
pub mod Makes
pub mod Joins
