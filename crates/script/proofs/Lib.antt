pub mod Outcomes
pub mod Worlds
pub mod Runs
