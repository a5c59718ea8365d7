pub mod Cancel
pub mod Forged
pub mod ForgedSegment
