pub mod Left
pub mod Output
pub mod Script
pub mod Texts
