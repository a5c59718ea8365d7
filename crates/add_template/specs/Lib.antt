pub mod Within
pub mod Conditions
pub mod Words
