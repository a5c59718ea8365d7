pub mod Groups
pub mod Sources
