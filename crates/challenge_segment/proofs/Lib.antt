pub mod Seldom
pub mod Segment
