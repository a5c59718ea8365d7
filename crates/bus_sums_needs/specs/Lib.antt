pub mod Cancel
pub mod Forged
