pub mod Lean
pub mod Forged
