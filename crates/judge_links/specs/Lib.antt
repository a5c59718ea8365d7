pub mod Even
pub mod Counting
