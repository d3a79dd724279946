pub mod Parts
pub mod ChunkCounts
pub mod Spans
pub mod Normal
pub mod OwnRuns
pub mod Left
pub mod Between
pub mod Pieces
