pub mod UnevenRow
pub mod Bus
