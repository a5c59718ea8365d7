pub mod Agree
pub mod Answered
pub mod Cells
pub mod Equal
pub mod Refusals
pub mod Rising
pub mod Same
pub mod Scans
