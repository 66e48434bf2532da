pub mod Heaps
pub mod Changes
pub mod Tallies
pub mod Agendas
