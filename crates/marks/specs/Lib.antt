pub mod Tree
pub mod Marks
