pub mod Charging
pub mod Ops
pub mod Round
pub mod Sums
