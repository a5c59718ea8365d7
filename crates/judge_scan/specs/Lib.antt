pub mod Tables
pub mod Spot
pub mod Highest
