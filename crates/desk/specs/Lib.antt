pub mod Receipts
pub mod Books
pub mod Passes
pub mod Names
pub mod Seats
