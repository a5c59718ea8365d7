pub mod Counts
pub mod Partners
