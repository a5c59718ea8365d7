pub mod Pairs
pub mod Halves
pub mod Enough
pub mod Passing
pub mod Forged
pub mod Thin
