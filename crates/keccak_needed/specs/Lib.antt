pub mod CoreNeeded
