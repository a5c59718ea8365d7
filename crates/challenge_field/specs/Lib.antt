pub mod Cubic
pub mod Elements
pub mod Quadratic
