pub mod Registers
pub mod History
