pub mod Marks
pub mod Cells
pub mod Steps
pub mod Passing
pub mod Same
pub mod Falsity
pub mod Needed
