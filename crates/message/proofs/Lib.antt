pub mod Late
pub mod Message
pub mod Refusals
pub mod Judging
pub mod Digest
pub mod Tied
