pub mod Entries
pub mod Outside
