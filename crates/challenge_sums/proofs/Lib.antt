pub mod Honest
pub mod Receipt
pub mod Totals
pub mod Widths
