pub mod Alike
pub mod Audit
pub mod Laws
pub mod Runs
pub mod TableLines
pub mod Texts
