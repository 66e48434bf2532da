pub mod Counts
pub mod Sound
pub mod Tracing
pub mod View
pub mod Moving
pub mod Making
pub mod Joins
