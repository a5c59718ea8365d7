pub mod LeanSums
