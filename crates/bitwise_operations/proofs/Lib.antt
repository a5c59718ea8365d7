pub mod Answers
pub mod Charging
