pub mod Scan
pub mod Rising
pub mod Stamps
