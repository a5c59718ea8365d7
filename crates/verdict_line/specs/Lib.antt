pub mod Line
pub mod Named
pub mod Lent
