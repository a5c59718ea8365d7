pub mod Rotated
pub mod Terms
