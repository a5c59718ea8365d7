pub mod Passed
pub mod Tied
