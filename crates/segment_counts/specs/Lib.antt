pub mod Segment
pub mod Sums
pub mod Orders
pub mod Kinds
