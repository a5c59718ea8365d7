pub mod CoreTests
pub mod CoreNeeded
pub mod CoreFollows
