pub mod Charge
pub mod Sent
pub mod Written
