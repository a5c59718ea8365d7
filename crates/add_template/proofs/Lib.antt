pub mod Signed
pub mod Sums
pub mod Conditions
pub mod Within
pub mod Values
