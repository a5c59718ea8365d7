pub mod Needed
pub mod Bent
