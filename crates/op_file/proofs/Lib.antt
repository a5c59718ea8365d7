pub mod Totals
pub mod Steps
pub mod Laws
pub mod Cases
pub mod Starts
pub mod SegmentNumbers
pub mod Counted
