pub mod Chosen
pub mod Places
pub mod Groups
pub mod Within
