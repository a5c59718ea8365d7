pub mod Grown
pub mod Charging
pub mod Searching
pub mod Refusals
