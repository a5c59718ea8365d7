pub mod Check
pub mod Domain
