pub mod Padding
pub mod Sponge
