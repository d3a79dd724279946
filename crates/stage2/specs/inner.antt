-- What the proofs of an edit say of its steps: chunk by chunk, and word by word.
pub mod Change
pub mod Chunks
pub mod Pieces
pub mod Gigabytes
pub mod History
pub mod Steps
pub mod Clauses
pub mod Filling
