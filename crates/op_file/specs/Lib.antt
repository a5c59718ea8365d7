pub mod File
pub mod Reader
