pub mod Kept
pub mod Answers
pub mod Tables
