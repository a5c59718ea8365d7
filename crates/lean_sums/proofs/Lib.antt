pub mod LeanSums
pub mod LeanComplete
