pub mod Flat
pub mod FlatJudged
pub mod FlatReader
pub mod FlatLookup
