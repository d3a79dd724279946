pub mod Spans
pub mod Edits
pub mod Search
pub mod Blocks
pub mod Taking
