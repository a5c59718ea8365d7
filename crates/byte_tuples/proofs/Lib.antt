pub mod Sends
pub mod Stored
