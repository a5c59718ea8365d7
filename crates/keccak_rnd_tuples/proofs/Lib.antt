pub mod Tuples
pub mod States
pub mod Counts
