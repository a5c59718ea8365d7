pub mod Or
pub mod Residue
pub mod Stored
