pub mod Cubic
pub mod Elements
pub mod Fermat
pub mod Field
pub mod Products
pub mod Quadratic
pub mod Square
