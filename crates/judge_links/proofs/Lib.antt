pub mod Walk
pub mod Even
pub mod Counting
