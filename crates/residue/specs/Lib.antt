pub mod Residue
