mod Names
pub mod Words
pub mod Count
pub mod Shares
mod Kept
pub mod Nonzero
pub mod Stretches
mod Recorded
mod Turned
mod Wrote
mod Alone
mod Written
pub mod Replaced
pub mod RunWords
pub mod FirstRuns
pub mod Gaps
pub mod Applying
mod Contents
mod Held
mod Rows
mod WalkNames
mod CellMemory
mod CellSharing
mod Within
