pub mod Sha3
pub mod Sponge
