pub mod Turns
pub mod Owing
