pub mod Tuples
pub mod Parts
pub mod Accesses
