pub mod Files
pub mod Record
