pub mod Boundaries
pub mod Valid
pub mod Faults
pub mod Numbers
pub mod Document
pub mod Common
