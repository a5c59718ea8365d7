pub mod Rows
pub mod Lists
pub mod Loads
pub mod Calls
pub mod Meaning
