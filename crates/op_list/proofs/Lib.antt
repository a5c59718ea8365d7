pub mod Files
pub mod RoundTrip
pub mod RecordAgain
