pub mod Exactly
pub mod Minimal
